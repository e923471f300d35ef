use Rattle.std.proofs.Common.{◌≡◌, ◌+◌, ◌*◌, ◌≤◌, vec_len}
use Rattle.std.specs.Vec.Iter.{into_iter_len}
use Rattle.workload.proofs.workers.gather.Given as goal

abbrev pub invariant-loop-one : goal.invariant-loop-one
invariant-loop-one g l =
    (l.all.parts + into_iter_len l.left ≡ l.fn.all.parts + vec_len l.fn.worked) × (l.all.amount ≡ l.done)
    × (l.done + into_iter_len l.left * 65536 ≤ 255 * 65536)

abbrev pub decreases-loop-one : goal.decreases-loop-one
decreases-loop-one g l = into_iter_len l.left
