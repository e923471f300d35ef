use Rattle.std.proofs.Common.{◌≡◌, ℕ, fold, length}
use Rattle.wire.specs.declared.slot.Slot.{Slot}
use Rattle.log_facts.specs.Facts as told
use Rattle.log_facts.proofs.facts.extents.Given as goal

-- what is counted of all is what is counted of what is left, beginning with what was counted
abbrev pub invariant-loop-rest : goal.invariant-loop-rest
invariant-loop-rest l =
    fold (λ (n : ℕ) (slot : Slot). told.extents_by l.anchors.upto n (told.members_of slot)) l.anchors.extents l.initial.rest
    ≡ fold (λ (n : ℕ) (slot : Slot). told.extents_by l.anchors.upto n (told.members_of slot)) l.count l.rest

abbrev pub decreases-loop-rest : goal.decreases-loop-rest
decreases-loop-rest l = length l.rest
