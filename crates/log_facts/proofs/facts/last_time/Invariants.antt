use Rattle.std.proofs.Common.{◌≡◌, ℕ, fold, length}
use Rattle.wire.specs.declared.slot.Slot.{Slot}
use Rattle.log_facts.specs.Facts as told
use Rattle.log_facts.proofs.facts.last_time.Given as goal

-- what is counted of all is what is counted of what is left, beginning with what was counted
abbrev pub invariant-loop-rest : goal.invariant-loop-rest
invariant-loop-rest l =
    fold (λ (t : ℕ) (slot : Slot). told.last_of t (told.members_of slot)) 0 l.initial.rest
    ≡ fold (λ (t : ℕ) (slot : Slot). told.last_of t (told.members_of slot)) l.time l.rest

abbrev pub decreases-loop-rest : goal.decreases-loop-rest
decreases-loop-rest l = length l.rest
