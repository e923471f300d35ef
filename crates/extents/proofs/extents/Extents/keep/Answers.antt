use Rattle.std.proofs.Common.{arith}
use Rattle.std.proofs.lemmas.Grind.{common_steps}
use Rattle.extents.proofs.extents.Extents.keep.Goals as goal

pub invariant_of-self : goal.invariant_of-self
invariant_of-self c = grind (arith, common_steps)

pub returns-then-has-clause-kept : goal.returns-then-has-clause-kept
returns-then-has-clause-kept c = grind (arith, common_steps)

pub returns-then-has-clause-others : goal.returns-then-has-clause-others
returns-then-has-clause-others c = grind (arith, common_steps)
