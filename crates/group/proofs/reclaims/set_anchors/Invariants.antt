use Rattle.std.proofs.Common.{◌≡◌, length}
use Rattle.extents.specs.Times.{with_times}
use Rattle.group.proofs.reclaims.set_anchors.Given as goal

abbrev pub invariant-loop-rest : goal.invariant-loop-rest
invariant-loop-rest l = with_times l.times l.rest 0 ≡ with_times l.fn.times l.extents 0

abbrev pub decreases-loop-rest : goal.decreases-loop-rest
decreases-loop-rest l = length l.rest
