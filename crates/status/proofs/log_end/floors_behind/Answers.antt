use Rattle.std.proofs.Common.{arith}
use Rattle.std.proofs.lemmas.Grind.{common_steps}
use Rattle.status.proofs.log_end.floors_behind.Goals as goal

pub returns-in-Floor : goal.returns-in-Floor
returns-in-Floor c = grind (arith, common_steps)
