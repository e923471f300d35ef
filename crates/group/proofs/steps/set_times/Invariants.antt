use Rattle.std.proofs.Common.{◌≡◌, length, map}
use Rattle.group.specs.declared.queued.StoredExtent.{StoredExtent}
use Rattle.extents.specs.Times.{with_times}
use Rattle.group.proofs.steps.set_times.Given as goal

abbrev pub invariant-loop-rest : goal.invariant-loop-rest
invariant-loop-rest l =
    with_times l.times (map (λ (s : StoredExtent). s.extent) l.rest) l.time ≡ with_times l.fn.times (map (λ (s : StoredExtent). s.extent) l.stored) l.time

abbrev pub decreases-loop-rest : goal.decreases-loop-rest
decreases-loop-rest l = length l.rest
