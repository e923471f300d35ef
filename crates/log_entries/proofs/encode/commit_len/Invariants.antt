use Rattle.std.proofs.Common.{length}
use Rattle.log_entries.proofs.CommitLengths.{IsCounting}
use Rattle.log_entries.proofs.encode.commit_len.Given as goal

abbrev pub invariant-loop-record : goal.invariant-loop-record
invariant-loop-record g l = IsCounting (g.S.RecordSource.left l.initial.source) (g.S.RecordSource.left l.source) l.len

abbrev pub decreases-loop-record : goal.decreases-loop-record
decreases-loop-record g l = length (g.S.RecordSource.left l.source)
