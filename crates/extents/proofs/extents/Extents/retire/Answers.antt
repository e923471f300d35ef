use Rattle.std.proofs.Common.{arith}
use Rattle.std.proofs.lemmas.Grind.{common_steps}
use Rattle.extents.proofs.extents.Extents.retire.Goals as goal

pub returns-then-has-clause-not_kept : goal.returns-then-has-clause-not_kept
returns-then-has-clause-not_kept c = grind (arith, common_steps)

pub returns-else-has-clause-freed : goal.returns-else-has-clause-freed
returns-else-has-clause-freed c = grind (arith, common_steps)
