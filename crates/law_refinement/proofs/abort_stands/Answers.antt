use Rattle.law_refinement.proofs.GrowingCalls.{abort-stands}
use Rattle.law_refinement.proofs.abort_stands.Goals as goal

pub returns : goal.returns
returns c = abort-stands
