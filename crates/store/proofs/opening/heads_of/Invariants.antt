use Rattle.std.proofs.Common.{◌≡◌, ◌++◌, length, map}
use Rattle.store.specs.Heads.{head_as}
use Rattle.store.proofs.opening.heads_of.Given as goal

abbrev pub invariant-loop-rest : goal.invariant-loop-rest
invariant-loop-rest l = l.heads.items ++ map head_as l.rest ≡ map head_as l.fn.commits

abbrev pub decreases-loop-rest : goal.decreases-loop-rest
decreases-loop-rest l = length l.rest
