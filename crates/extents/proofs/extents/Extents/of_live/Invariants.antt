use Rattle.std.proofs.Common.{take}
use Rattle.extents.proofs.Claims.{AreClaimed}
use Rattle.extents.proofs.extents.Extents.of_live.Given as goal

abbrev pub invariant-loop-number : goal.invariant-loop-number
invariant-loop-number l = AreClaimed l.extents (take l.number-index l.numbers)
