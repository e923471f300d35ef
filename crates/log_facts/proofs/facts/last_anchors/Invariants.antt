use Rattle.std.proofs.Common.{◌≡◌, fold, length}
use Rattle.wire.specs.declared.slot.Slot.{Slot}
use Rattle.log_facts.specs.Facts as told
use Rattle.wire.specs.declared.slot.Anchors.{Anchors}
use Rattle.log_facts.proofs.facts.last_anchors.Given as goal

-- what is counted of all is what is counted of what is left, beginning with what was counted
abbrev pub invariant-loop-rest : goal.invariant-loop-rest
invariant-loop-rest l =
    fold (λ (a : Anchors) (slot : Slot). told.anchors_by a slot.body) told.no_anchors l.initial.rest
    ≡ fold (λ (a : Anchors) (slot : Slot). told.anchors_by a slot.body) l.anchors l.rest

abbrev pub decreases-loop-rest : goal.decreases-loop-rest
decreases-loop-rest l = length l.rest
