use Rattle.std.proofs.Common.{arith}
use Rattle.std.proofs.lemmas.Grind.{common_steps}
use Rattle.status.proofs.reading.is_built.Goals as goal

pub returns-else-kind-eq-RECLAIMED : goal.returns-else-kind-eq-RECLAIMED
returns-else-kind-eq-RECLAIMED c = grind (arith, common_steps)
