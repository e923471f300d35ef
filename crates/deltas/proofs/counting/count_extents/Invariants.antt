use Rattle.std.proofs.Common.{length}
use Rattle.deltas.proofs.FilledChains.{IsCounting}
use Rattle.deltas.proofs.counting.count_extents.Given as goal

abbrev pub invariant-loop-record : goal.invariant-loop-record
invariant-loop-record g l = IsCounting (g.S.RecordSource.left l.initial.source) (g.S.RecordSource.left l.source) l.extents l.records l.used

abbrev pub decreases-loop-record : goal.decreases-loop-record
decreases-loop-record g l = length (g.S.RecordSource.left l.source)
