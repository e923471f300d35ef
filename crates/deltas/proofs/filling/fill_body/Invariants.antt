use Rattle.std.proofs.Common.{length}
use Rattle.deltas.proofs.Filled.{IsFilling}
use Rattle.deltas.proofs.filling.fill_body.Given as goal

abbrev pub invariant-loop-record : goal.invariant-loop-record
invariant-loop-record g l = IsFilling (g.S.RecordSource.left l.initial.source) (g.S.RecordSource.left l.source) l.records l.used l.body

abbrev pub decreases-loop-record : goal.decreases-loop-record
decreases-loop-record g l = length (g.S.RecordSource.left l.source)
