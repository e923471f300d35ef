use Rattle.std.proofs.Common.{◌≡◌, length}
use Rattle.floors.specs.Floors.{all_below}
use Rattle.floors.proofs.floors.all_below.Given as goal

abbrev pub invariant-loop-rest : goal.invariant-loop-rest
invariant-loop-rest l = all_below l.floor l.rest ≡ all_below l.floor l.own

abbrev pub decreases-loop-rest : goal.decreases-loop-rest
decreases-loop-rest l = length l.rest
