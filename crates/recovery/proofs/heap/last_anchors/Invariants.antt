use Rattle.std.proofs.Common.{◌≡◌, length}
use Rattle.law_layout.specs.Layouts.{anchors_after, no_anchors}
use Rattle.recovery.proofs.heap.last_anchors.Given as goal

abbrev pub invariant-loop-rest : goal.invariant-loop-rest
invariant-loop-rest l = anchors_after l.anchors l.rest ≡ anchors_after no_anchors l.fn.slots

abbrev pub decreases-loop-rest : goal.decreases-loop-rest
decreases-loop-rest l = length l.rest
