use Rattle.std.proofs.Common.{arith}
use Rattle.std.proofs.lemmas.Grind.{common_steps}
use Rattle.status.proofs.status_log.StatusLog.begin_slot.Goals as goal

pub returns-clause-writing : goal.returns-clause-writing
returns-clause-writing c = grind (arith, common_steps)
