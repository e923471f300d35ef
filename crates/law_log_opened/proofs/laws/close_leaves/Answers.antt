use Rattle.law_log_opened.proofs.Reopened.{close-leaves}
use Rattle.law_log_opened.proofs.laws.close_leaves.Goals as goal

pub returns : goal.returns
returns c = λ tells v m disk step stands told same. close-leaves tells v m disk step stands told same
