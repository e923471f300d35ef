use Rattle.std.proofs.Common.{◌≡◌, ◌+◌}
use Rattle.bench.proofs.many_callers.crew.writers_for.Given as goal

abbrev pub invariant-loop-number : goal.invariant-loop-number
invariant-loop-number g l = (l.all.parts + l.number ≡ l.writers + 1) × (l.all.amount ≡ 0)
