use Rattle.log_base.proofs.TakesFront.{takes-live}
use Rattle.log_base.proofs.laws.base_takes_front.Goals as goal

pub returns : goal.returns
returns c = takes-live
