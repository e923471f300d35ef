use Rattle.std.proofs.Common.{◌≡◌, ◌+◌, vec_len}
use Rattle.workload.proofs.workers.badges_for.Given as goal

abbrev pub invariant-loop-number : goal.invariant-loop-number
invariant-loop-number g l = (l.all.parts + l.number ≡ l.writers + 1) × (l.all.amount ≡ 0) × (vec_len l.badges ≡ l.number)
