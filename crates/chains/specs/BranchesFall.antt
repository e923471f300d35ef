-- A fork is higher than each branch below it.
use Rattle.std.specs.Prelude.{◌+◌, ◌≤◌, max, List, [], ◌∷◌}
use Rattle.std.proofs.Common.{arith}
use Rattle.chains.specs.Shapes.{Shape}
use Rattle.chains.specs.Writes.{Write}
use Rattle.chains.specs.Branches.{older_in}
use Rattle.chains.specs.Shapes.{highest}
use Rattle.chains.specs.declared.older.Inside.{Inside}
use Rattle.chains.specs.declared.older.Inside.TheVariants.{Nothing, Few, Full, Fork, Wide}
use Rattle.chains.specs.declared.older.Branch.TheDeep.{deep-Inside}
use denote.Param.Weighed.{most}

-- the most of the branches' heights, each with one more, is at most one more than the highest of them
most-highest : (bs : List (Shape Write)) → most (λ b. b.height + 1) bs ≤ highest bs + 1
most-highest [] = omega arith
most-highest (b ∷ bs) = omega (arith, most-highest bs)

-- what stands inside a branch is no deeper than its height says
pub depth_le-height : (i : Inside) → max (deep-Inside i) 0 ≤ (older_in i).height
depth_le-height Nothing = omega arith
depth_le-height (Few shared) = omega arith
depth_le-height (Full shared) = omega arith
depth_le-height (Fork shared) = omega (arith, most-highest shared.value.items)
depth_le-height (Wide count shared) = omega (arith, most-highest shared.value)
