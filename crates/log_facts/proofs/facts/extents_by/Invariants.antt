use Rattle.std.proofs.Common.{◌≡◌, ℕ, fold, length, nat_lt, if◌then◌else◌}
use Rattle.wire.specs.declared.slot.Member.{Member}
use Rattle.log_facts.specs.Facts as told
use Rattle.log_facts.proofs.facts.extents_by.Given as goal

-- what is counted of all is what is counted of what is left, beginning with what was counted
abbrev pub invariant-loop-rest : goal.invariant-loop-rest
invariant-loop-rest l =
    fold (λ (n : ℕ) (m : Member). if nat_lt l.mark m.time then told.plus n m.extents else n) l.before l.initial.rest
    ≡ fold (λ (n : ℕ) (m : Member). if nat_lt l.mark m.time then told.plus n m.extents else n) l.count l.rest

abbrev pub decreases-loop-rest : goal.decreases-loop-rest
decreases-loop-rest l = length l.rest
