use Rattle.std.proofs.Common.{subst, sym, refl, ◌∙◌, arith}
use Rattle.std.proofs.lemmas.Bool.{false≢true}
use Rattle.deltas.specs.declared.«record».Record.{Record}
use Rattle.deltas.specs.Records.{IsRecord}
use Rattle.deltas.specs.Chains.{IsPermitted}
use Rattle.deltas.proofs.RecordsAlone.{has_spelled, is_spelled, spelled_back}
use Rattle.deltas.proofs.front.take_record_of.Goals as goal

pub returns-in_default : goal.returns-in_default
returns-in_default c = λ r rest is permitted same. (rw c.in_default.is at c.in_ok-record.ensures) (has_spelled c.args.bytes.now r rest is same)

pub returns-then-not-is_record_of : goal.returns-then-not-is_record_of
returns-then-not-is_record_of c = λ r rest is permitted same.
    let found = rw c.in-Some.is at c.in_ok-record.ensures in
    let r_is = found.1 ∙ is_spelled c.args.bytes.now r rest is same in
    false≢true (c.if-not-is_record_of.ensures.1 (subst (λ (x : Record). IsRecord x × IsPermitted c.args.kinds x.content) (sym r_is) (is, permitted)))

pub returns : goal.returns
returns c =
    let found = rw c.in-Some.is at c.in_ok-record.ensures in
    let tested = c.if-not-is_record_of.ensures.0 refl in
    (tested.0, tested.1, spelled_back c.args.bytes.now _ _ (λ i. omega (arith, c.type_inv.bytes i)) found.0 found.1 found.2)
