use Rattle.law_refinement.proofs.GrowingCalls.{submit-stands}
use Rattle.law_refinement.proofs.submit_stands.Goals as goal

pub returns : goal.returns
returns c = submit-stands
