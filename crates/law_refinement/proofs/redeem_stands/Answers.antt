use Rattle.law_refinement.proofs.GrowingCalls.{redeem-stands}
use Rattle.law_refinement.proofs.redeem_stands.Goals as goal

pub returns : goal.returns
returns c = redeem-stands
