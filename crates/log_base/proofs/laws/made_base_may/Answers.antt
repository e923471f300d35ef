use Rattle.log_base.proofs.MadeBase.{made-base}
use Rattle.log_base.proofs.laws.made_base_may.Goals as goal

pub returns : goal.returns
returns c = made-base
