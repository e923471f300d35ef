use Rattle.law_commits.proofs.Views.{view-stands}
use Rattle.law_commits.proofs.laws.view_stands.Goals as goal

pub returns : goal.returns
returns c = view-stands
