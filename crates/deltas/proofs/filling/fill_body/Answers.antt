use Rattle.std.proofs.Common.{◌≡◌, sym, None, Some}
use Rattle.deltas.specs.Filling.{first_within}
use Rattle.deltas.specs.Loans.{record_of_loan}
use Rattle.deltas.proofs.Filled.{one_filled, body_filled, zeros_behind}
use Rattle.deltas.proofs.filling.fill_body.Goals as goal

pub loop-record-preserved : goal.loop-record-preserved
loop-record-preserved g c =
    let next : first_within _ (g.S.RecordSource.left c.loop-record.source) ≡ Some (record_of_loan c.in-Some.record) =
    sym (rw c.in-Some.is at c.peek_within.ensures.is) in
    one_filled _ _ _ _ _ _ _ _ _ next c.advance.ensures c.put_record-used.ensures.end c.put_record-used.ensures.front c.put_record-used.ensures.len
    c.loop-record.invariant

pub returns : goal.returns
returns g c =
    let none : first_within _ (g.S.RecordSource.left c.loop-record.source) ≡ None = sym (rw c.in_default.is at c.peek_within.ensures.is) in
    body_filled _ _ _ _ _ _ none c.peek_within.ensures.short c.loop-record.invariant
    (zeros_behind c.loop-record.used c.loop-record.body c.fill.new.self c.loop-record.invariant.len c.loop-record.invariant.fits
    (c.fill.ensures.after (λ y e. e)))
