use Rattle.law_refinement.proofs.GrowingPumps.{pump-stands}
use Rattle.law_refinement.proofs.pump_stands.Goals as goal

pub returns : goal.returns
returns c = pump-stands
