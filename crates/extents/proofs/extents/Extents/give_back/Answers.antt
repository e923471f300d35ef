use Rattle.std.proofs.Common.{arith}
use Rattle.std.proofs.lemmas.Grind.{common_steps}
use Rattle.extents.proofs.extents.Extents.give_back.Goals as goal

pub returns-then-has-clause-freed : goal.returns-then-has-clause-freed
returns-then-has-clause-freed c = grind (arith, common_steps)
