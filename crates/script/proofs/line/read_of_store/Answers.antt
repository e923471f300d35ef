use Rattle.std.proofs.Common.{arith}
use Rattle.std.proofs.lemmas.Grind.{common_steps}
use Rattle.script.proofs.line.read_of_store.Goals as goal

pub returns-then-is-11 : goal.returns-then-is-11
returns-then-is-11 c = grind (arith, common_steps)
