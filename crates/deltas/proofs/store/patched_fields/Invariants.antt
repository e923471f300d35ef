use Rattle.std.proofs.Common.{◌≡◌, ◌++◌, ◌+◌, ◌≤◌, length}
use Rattle.law_image.specs.Facts.{patched}
use Rattle.deltas.proofs.store.patched_fields.Given as goal

abbrev pub invariant-loop-field : goal.invariant-loop-field
invariant-loop-field l = (l.fields ++ patched l.mask l.news l.olds ≡ patched l.fn.mask l.changed l.old) × (length l.fields + length l.olds ≤ 16)

abbrev pub decreases-loop-field : goal.decreases-loop-field
decreases-loop-field l = length l.olds
