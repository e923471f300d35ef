use Rattle.std.proofs.Common.{◌≡◌, ℕ, fold, length}
use Rattle.wire.specs.declared.slot.Member.{Member}
use Rattle.log_facts.proofs.facts.last_of.Given as goal

-- what is counted of all is what is counted of what is left, beginning with what was counted
abbrev pub invariant-loop-rest : goal.invariant-loop-rest
invariant-loop-rest l =
    fold (λ (t : ℕ) (m : Member). m.time) l.otherwise l.initial.rest
    ≡ fold (λ (t : ℕ) (m : Member). m.time) l.time l.rest

abbrev pub decreases-loop-rest : goal.decreases-loop-rest
decreases-loop-rest l = length l.rest
