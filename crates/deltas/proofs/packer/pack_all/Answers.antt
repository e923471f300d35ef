use Rattle.std.proofs.Common.{◌≡◌, Some, None, slice_get, refl, arith}
use Rattle.deltas.specs.Loans.{record_of_loan}
use Rattle.deltas.proofs.PackedAll.{first_packed, next_begins, next_joins, none_next, all_packed}
use Rattle.deltas.proofs.packer.pack_all.Goals as goal
use Rattle.deltas.proofs.packer.pack_all.Goals.{then-len-loan_len-gt-BODY_LEN+in_ok-push+in_ok-body-2, else-len-loan_len-gt-BODY_LEN}

pub loop-record-init : goal.loop-record-init
loop-record-init g c =
    let next : Some (record_of_loan c.in-Some.first) ≡ slice_get (g.S.RecordSource.left c.args.source.now) 0 = rw c.in-Some.is at c.peek.ensures in
    first_packed _ _ _ _ _ next c.advance.ensures c.new-packed.ensures.items c.in_ok-body.ensures

pub loop-record-preserved : goal.loop-record-preserved
loop-record-preserved g c =
    let next : Some (record_of_loan c.in-Some-peek.record) ≡ slice_get (g.S.RecordSource.left c.loop-record.source) 0 =
    rw c.in-Some-peek.is at c.peek-in-loop-record.ensures in
    elim c.if-len-loan_len-gt-BODY_LEN.branch [
      | then-len-loan_len-gt-BODY_LEN+in_ok-push+in_ok-body-2 w ↦
          rw (w.packed-is, w.body-is)
          (next_begins _ _ _ _ _ _ _ _ next c.advance-in-Some-peek.ensures
          (omega (arith, w.if-len-loan_len-gt-BODY_LEN.true, c.len.ensures.is, c.loan_len.ensures.is)) w.in_ok-push.ensures.items w.in_ok-body-2.ensures
          c.loop-record.invariant)
      | else-len-loan_len-gt-BODY_LEN w ↦
          rw (w.packed-is, w.body-is)
          (next_joins _ _ _ _ _ _ _ _ next c.advance-in-Some-peek.ensures
          (omega (arith, w.if-len-loan_len-gt-BODY_LEN.false, c.len.ensures.is, c.loan_len.ensures.is)) refl w.push-else-len-loan_len-gt-BODY_LEN.ensures
          c.loop-record.invariant)
    ]

pub returns-in_default-clause-none : goal.returns-in_default-clause-none
returns-in_default-clause-none g c = none_next _ (rw c.in_default.is at c.peek.ensures)

pub returns-clause-packed : goal.returns-clause-packed
returns-clause-packed g c =
    let end : None ≡ slice_get (g.S.RecordSource.left c.loop-record.source) 0 = rw c.in_default-peek.is at c.peek-in-loop-record.ensures in
    all_packed _ _ _ _ _ end c.in_ok-push-2.ensures.items c.loop-record.invariant

pub returns-clause-none : goal.returns-clause-none
returns-clause-none g c = none_next _ (rw c.in_default-peek.is at c.peek-in-loop-record.ensures)
