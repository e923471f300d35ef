use Rattle.std.proofs.Common.{◌≡◌, ◌++◌, length, map}
use Rattle.log_shown.specs.declared.items.LogItem.TheVariants as says
use Rattle.log_shown.proofs.items.push_floors.Given as goal

abbrev pub invariant-loop-rest : goal.invariant-loop-rest
invariant-loop-rest l = l.items.items ++ map says.BaseFloor l.rest ≡ l.fn.items.items ++ map says.BaseFloor l.floors

abbrev pub decreases-loop-rest : goal.decreases-loop-rest
decreases-loop-rest l = length l.rest
