use Rattle.law_log_steps.proofs.Pumping.{pump-stands}
use Rattle.law_log_steps.proofs.laws.pump_stands.Goals as goal

pub returns : goal.returns
returns c = λ tells old new answer m step sound is pumps. pump-stands tells old new answer m step sound is pumps
