use Rattle.std.proofs.Common.{◌≡◌, take}
use Rattle.log_room.specs.Contents.{joined, extents_of}
use Rattle.log_room.proofs.content.join.Given as goal

abbrev pub invariant-loop-place : goal.invariant-loop-place
invariant-loop-place l = record {
  bytes : l.bytes.items ≡ joined (take l.place l.contents.items);
  count : l.extents ≡ extents_of (take l.place l.contents.items);
}
