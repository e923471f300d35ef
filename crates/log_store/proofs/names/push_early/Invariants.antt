use Rattle.std.proofs.Common.{◌≡◌, ◌++◌, ℕ, nat_le, filter, length}
use Rattle.log_store.proofs.names.push_early.Given as goal

abbrev pub invariant-loop-rest : goal.invariant-loop-rest
invariant-loop-rest l =
    l.times.items ++ filter (λ (time : ℕ). nat_le time l.mark) l.rest ≡ l.initial.times.items ++ filter (λ (time : ℕ). nat_le time l.mark) l.more

abbrev pub decreases-loop-rest : goal.decreases-loop-rest
decreases-loop-rest l = length l.rest
