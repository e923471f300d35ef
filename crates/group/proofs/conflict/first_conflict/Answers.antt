use Rattle.std.proofs.Common.{arith}
use Rattle.std.proofs.lemmas.Grind.{common_steps}
use Rattle.group.proofs.conflict.first_conflict.Goals as goal

pub returns-then-snapshot-last_write : goal.returns-then-snapshot-last_write
returns-then-snapshot-last_write c = grind (arith, common_steps)
