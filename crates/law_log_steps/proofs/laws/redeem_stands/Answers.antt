use Rattle.law_log_steps.proofs.Keeping.{redeem-stands}
use Rattle.law_log_steps.proofs.laws.redeem_stands.Goals as goal

pub returns : goal.returns
returns c = λ tells old new ticket answer m is redeems. redeem-stands tells old new ticket answer m is redeems
