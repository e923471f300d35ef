use Rattle.law_commits.proofs.Memory.{abort-step}
use Rattle.law_commits.proofs.laws.abort_stands.Goals as goal

pub returns : goal.returns
returns c = abort-step
