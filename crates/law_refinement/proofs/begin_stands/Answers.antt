use Rattle.law_refinement.proofs.GrowingCalls.{begin-stands}
use Rattle.law_refinement.proofs.begin_stands.Goals as goal

pub returns : goal.returns
returns c = begin-stands
