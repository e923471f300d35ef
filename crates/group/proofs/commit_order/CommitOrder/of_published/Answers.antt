use Rattle.std.proofs.Common.{arith}
use Rattle.std.proofs.lemmas.Grind.{common_steps}
use Rattle.group.proofs.commit_order.CommitOrder.of_published.Goals as goal

pub returns-clause-published : goal.returns-clause-published
returns-clause-published c = grind (arith, common_steps)
