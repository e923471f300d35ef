use Rattle.std.proofs.Common.{◌≡◌, ◌++◌, map, length}
use Rattle.log_base.specs.Bases.{relation_floor}
use Rattle.log_base.proofs.raising.spelled.Given as goal

abbrev pub invariant-loop-rest : goal.invariant-loop-rest
invariant-loop-rest l = l.floors.items ++ map relation_floor l.rest ≡ map relation_floor l.own

abbrev pub decreases-loop-rest : goal.decreases-loop-rest
decreases-loop-rest l = length l.rest
