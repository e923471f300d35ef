use Rattle.std.proofs.Common.{◌≡◌, length}
use Rattle.floors.specs.Floors.{same_own}
use Rattle.floors.proofs.floors.are_same.Given as goal

abbrev pub invariant-loop-rest : goal.invariant-loop-rest
invariant-loop-rest l = same_own l.rest l.left ≡ same_own l.fn.own l.fn.others

abbrev pub decreases-loop-rest : goal.decreases-loop-rest
decreases-loop-rest l = length l.rest
