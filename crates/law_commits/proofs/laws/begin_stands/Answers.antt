use Rattle.law_commits.proofs.Memory.{begin-step}
use Rattle.law_commits.proofs.laws.begin_stands.Goals as goal

pub returns : goal.returns
returns c = begin-step
