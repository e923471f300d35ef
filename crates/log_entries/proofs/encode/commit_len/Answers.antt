use Rattle.std.proofs.Common.{◌≡◌, Some, None, slice_get}
use Rattle.deltas.specs.Loans.{record_of_loan}
use Rattle.deltas.proofs.PackedAll.{none_next}
use Rattle.log_entries.proofs.CommitLengths.{none_counted, one_counted, all_counted}
use Rattle.log_entries.proofs.encode.commit_len.Goals as goal

pub loop-record-init : goal.loop-record-init
loop-record-init g c = none_counted (g.S.RecordSource.left c.args.source.now) c.requires

pub loop-record-preserved : goal.loop-record-preserved
loop-record-preserved g c =
    let next : Some (record_of_loan c.in-Some.record) ≡ slice_get (g.S.RecordSource.left c.loop-record.source) 0 = rw c.in-Some.is at c.peek.ensures in
    one_counted _ _ _ _ _ _ next c.advance.ensures c.loan_len-len.ensures.is c.loan_len-len.ensures.short c.loop-record.invariant

pub returns-clause-is : goal.returns-clause-is
returns-clause-is g c =
    let end : None ≡ slice_get (g.S.RecordSource.left c.loop-record.source) 0 = rw c.in_default.is at c.peek.ensures in
    all_counted _ _ _ end c.loop-record.invariant

pub returns-clause-end : goal.returns-clause-end
returns-clause-end g c =
    let end : None ≡ slice_get (g.S.RecordSource.left c.loop-record.source) 0 = rw c.in_default.is at c.peek.ensures in
    none_next _ end
