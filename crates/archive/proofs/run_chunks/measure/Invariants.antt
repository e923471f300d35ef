use Rattle.std.proofs.Common.{◌≡◌, ◌+◌, ◌*◌, ◌≤◌, ◌<◌, ◌^◌, length}
use Rattle.archive.specs.Pieces.{size_of}
use Rattle.archive.proofs.run_chunks.measure.Given as goal

abbrev pub invariant-loop-head : goal.invariant-loop-head
invariant-loop-head g l = record {
  all : g.W.RecordWalk.all l.walk ≡ g.W.RecordWalk.all l.initial.walk;
  records : l.records + length (g.W.RecordWalk.left l.walk) ≡ length (g.W.RecordWalk.left l.initial.walk);
  len : l.len + size_of (g.W.RecordWalk.left l.walk) ≡ size_of (g.W.RecordWalk.left l.initial.walk);
  few : l.records ≤ l.len;
  least : 36 * l.records ≤ l.len;
  most : l.len ≤ 4131 * l.records;
  short : l.len < 2 ^ 63;
}

abbrev pub decreases-loop-head : goal.decreases-loop-head
decreases-loop-head g l = length (g.W.RecordWalk.left l.walk)
