use Rattle.std.proofs.Common.{arith}
use Rattle.std.proofs.lemmas.Grind.{common_steps}
use Rattle.group.proofs.queued.Queued.spend.Goals as goal

pub returns-clause-entry : goal.returns-clause-entry
returns-clause-entry c = grind (arith, common_steps)
