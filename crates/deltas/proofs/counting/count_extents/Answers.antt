use Rattle.std.proofs.Common.{◌≡◌, Some, None, slice_get}
use Rattle.deltas.specs.Loans.{record_of_loan}
use Rattle.deltas.proofs.FilledChains.{none_counted, next_begun, next_added, all_counted}
use Rattle.deltas.proofs.counting.count_extents.Goals as goal
use Rattle.deltas.proofs.counting.count_extents.Goals.{then-used-len-gt-BODY_LEN, else-used-len-gt-BODY_LEN}

pub loop-record-init : goal.loop-record-init
loop-record-init g c = none_counted (g.S.RecordSource.left c.args.source.now)

pub loop-record-preserved : goal.loop-record-preserved
loop-record-preserved g c =
    let next : Some (record_of_loan c.in-Some.record) ≡ slice_get (g.S.RecordSource.left c.loop-record.source) 0 = rw c.in-Some.is at c.peek.ensures in
    elim c.if-used-len-gt-BODY_LEN.branch [
      | then-used-len-gt-BODY_LEN w ↦
          rw (w.extents-is, w.used-is) (next_begun _ _ _ _ _ _ _ _ next c.advance.ensures c.loan_len-len.ensures.is c.loan_len-len.ensures.short
          w.if-used-len-gt-BODY_LEN.true c.loop-record.invariant)
      | else-used-len-gt-BODY_LEN w ↦ rw (w.extents-is, w.used-is)
          (next_added _ _ _ _ _ _ _ _ next c.advance.ensures c.loan_len-len.ensures.is w.if-used-len-gt-BODY_LEN.false c.loop-record.invariant)
    ]

pub returns : goal.returns
returns g c =
    let end : None ≡ slice_get (g.S.RecordSource.left c.loop-record.source) 0 = rw c.in_default.is at c.peek.ensures in
    all_counted _ _ _ _ _ end c.loop-record.invariant
