use Rattle.std.proofs.Common.{arith}
use Rattle.std.proofs.lemmas.Grind.{common_steps}
use Rattle.chains.proofs.branching.begun_by.Goals as goal

pub loop-begun-preserved : goal.loop-begun-preserved
loop-begun-preserved c = grind (arith, common_steps)
