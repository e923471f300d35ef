use Rattle.std.proofs.Common.{arith}
use Rattle.std.proofs.lemmas.Grind.{common_steps}
use Rattle.timequery.proofs.view.View.check_memory.Goals as goal

pub returns-then-time-self : goal.returns-then-time-self
returns-then-time-self c = grind (arith, common_steps)
