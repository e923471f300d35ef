use Rattle.std.proofs.Common.{◌≡◌, ◌++◌, ◌+◌, ◌≤◌, vec_len, vec_capacity}
use Rattle.std.specs.Vec.Iter.{into_iter_items, into_iter_len}
use Rattle.group.specs.Queued.{stored_as}
use Rattle.group.proofs.sealing.stored_together.Given as goal

abbrev pub invariant-loop-image : goal.invariant-loop-image
invariant-loop-image l = record {
  so_far : l.stored.items ++ stored_as (into_iter_items l.extents) (into_iter_items l.images) ≡ stored_as l.fn.extents.items l.fn.images.items;
  lengths : into_iter_len l.images ≡ into_iter_len l.extents;
  room : vec_len l.stored + into_iter_len l.images ≤ vec_capacity l.stored;
}

abbrev pub decreases-loop-image : goal.decreases-loop-image
decreases-loop-image l = into_iter_len l.images
