use Rattle.std.proofs.Common.{length}
use Rattle.deltas.proofs.PackedAll.{IsPacking}
use Rattle.deltas.proofs.packer.pack_all.Given as goal

abbrev pub invariant-loop-record : goal.invariant-loop-record
invariant-loop-record g l = IsPacking (g.S.RecordSource.left l.fn.source) (g.S.RecordSource.left l.source) l.packed.items l.body

abbrev pub decreases-loop-record : goal.decreases-loop-record
decreases-loop-record g l = length (g.S.RecordSource.left l.source)
