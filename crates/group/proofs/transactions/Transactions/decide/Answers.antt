use Rattle.std.proofs.Common.{arith}
use Rattle.std.proofs.lemmas.Grind.{common_steps}
use Rattle.group.proofs.transactions.Transactions.decide.Goals as goal

pub returns-in-Some-clause-is : goal.returns-in-Some-clause-is
returns-in-Some-clause-is c = grind (arith, common_steps)

pub returns-in_default-packed-clause-is : goal.returns-in_default-packed-clause-is
returns-in_default-packed-clause-is c = grind (arith, common_steps)

pub returns-then-free_count-len-clause-is : goal.returns-then-free_count-len-clause-is
returns-then-free_count-len-clause-is c = grind (arith, common_steps)

pub returns-then-spare-le2-clause-is : goal.returns-then-spare-le2-clause-is
returns-then-spare-le2-clause-is c = grind (arith, common_steps)

pub returns-in-Ok-next-clause-is : goal.returns-in-Ok-next-clause-is
returns-in-Ok-next-clause-is c = grind (arith, common_steps)

pub returns-in-Err-clause-is : goal.returns-in-Err-clause-is
returns-in-Err-clause-is c = grind (arith, common_steps)
