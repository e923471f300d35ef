use Rattle.std.proofs.Common.{◌≡◌, List, ◌++◌, Some, None, slice_get, sym, ap, ◌∙◌, append-nil, length, arith}
use Rattle.std.specs.Prelude.{flat_map}
use Rattle.deltas.specs.declared.«record».Record.{Record}
use Rattle.deltas.specs.Loans.{record_of_loan}
use Rattle.deltas.specs.Records.{spelling}
use Rattle.deltas.proofs.Left.{length-spelling}
use Rattle.deltas.proofs.PackedAll.{none_next}
use Rattle.log_store.proofs.Spelled.{next-spelled, next-counted}
use Rattle.log_store.proofs.reclaim_start.spell_all.Goals as goal

pub loop-record-preserved : goal.loop-record-preserved
loop-record-preserved g c =
    let left = g.S.RecordSource.left c.loop-record.source in
    let next : Some (record_of_loan c.in-Some.record) ≡ slice_get left 0 = rw c.in-Some.is at c.peek.ensures in
    record {
      bytes = next-spelled c.loop-record.bytes.items c.push_write.new.out.items left (g.S.RecordSource.left c.advance.new.self)
          (record_of_loan c.in-Some.record) _ next c.advance.ensures c.in_ok-push_write.ensures.items c.loop-record.invariant.bytes;
      count = next-counted c.loop-record.records left (g.S.RecordSource.left c.advance.new.self) (record_of_loan c.in-Some.record) _ next c.advance.ensures
          c.loop-record.invariant.count;
      few =
          let some = length-spelling (record_of_loan c.in-Some.record) in
          omega (arith, some, c.in_ok-push_write.ensures.len, c.loop-record.invariant.few);
    }

pub returns-clause-bytes : goal.returns-clause-bytes
returns-clause-bytes g c =
    let end : None ≡ slice_get (g.S.RecordSource.left c.loop-record.source) 0 = rw c.in_default.is at c.peek.ensures in
    sym (append-nil c.loop-record.bytes.items)
    ∙ ap (λ (rest : List Record). c.loop-record.bytes.items ++ flat_map spelling rest) (sym (none_next _ end))
    ∙ c.loop-record.invariant.bytes

pub returns-clause-records : goal.returns-clause-records
returns-clause-records g c =
    let end : None ≡ slice_get (g.S.RecordSource.left c.loop-record.source) 0 = rw c.in_default.is at c.peek.ensures in
    let none = ap (λ (rest : List Record). length rest) (none_next _ end) in
    omega (arith, none, c.loop-record.invariant.count)
