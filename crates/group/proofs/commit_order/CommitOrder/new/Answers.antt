use Rattle.std.proofs.Common.{arith}
use Rattle.std.proofs.lemmas.Grind.{common_steps}
use Rattle.group.proofs.commit_order.CommitOrder.new.Goals as goal

pub invariant_of-result : goal.invariant_of-result
invariant_of-result c = grind (arith, common_steps)

pub returns-clause-published : goal.returns-clause-published
returns-clause-published c = grind (arith, common_steps)
