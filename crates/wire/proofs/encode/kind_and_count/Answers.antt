use Rattle.std.proofs.Common.{arith}
use Rattle.std.proofs.lemmas.Grind.{common_steps}
use Rattle.wire.proofs.encode.kind_and_count.Goals as goal

pub returns-in-Floor : goal.returns-in-Floor
returns-in-Floor c = grind (arith, common_steps)
