use Rattle.law_log_steps.proofs.Keeping.{begin-stands}
use Rattle.law_log_steps.proofs.laws.begin_stands.Goals as goal

pub returns : goal.returns
returns c = λ tells old new answer m is begins. begin-stands tells old new answer m is begins
