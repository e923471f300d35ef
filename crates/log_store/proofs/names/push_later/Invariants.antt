use Rattle.std.proofs.Common.{◌≡◌, ◌++◌, nat_lt, filter, length}
use Rattle.log_store.proofs.names.push_later.Given as goal

abbrev pub invariant-loop-rest : goal.invariant-loop-rest
invariant-loop-rest l = l.times.items ++ filter (nat_lt l.mark) l.rest ≡ l.initial.times.items ++ filter (nat_lt l.mark) l.more

abbrev pub decreases-loop-rest : goal.decreases-loop-rest
decreases-loop-rest l = length l.rest
