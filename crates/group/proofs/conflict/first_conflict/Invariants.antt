use Rattle.std.proofs.Common.{◌≡◌, drop, map, find, nat_lt}
use Rattle.chains.specs.KeyWrites.{writes_of}
use Rattle.chains.specs.Writes.{last_time}
use Rattle.group.proofs.conflict.first_conflict.Given as goal

abbrev pub invariant-loop-w : goal.invariant-loop-w
invariant-loop-w l =
    find (λ key. nat_lt l.snapshot (last_time (writes_of l.versions key))) (map (λ w. w.key) (drop l.w-index l.writes))
    ≡ find (λ key. nat_lt l.snapshot (last_time (writes_of l.versions key))) (map (λ w. w.key) l.writes)
