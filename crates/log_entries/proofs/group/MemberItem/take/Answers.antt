use Rattle.std.proofs.Common.{rules, refl, sym, subst, arith}
use Rattle.std.proofs.lemmas.Bool.{false≢true}
use Rattle.wire.proofs.FieldsRead.{whole_rest}
use Rattle.wire.proofs.Zeros.{AreBytes}
use Rattle.log_entries.specs.Reading.{IsHeadOf}
use Rattle.log_entries.proofs.MembersRead.{none_begins, none_behind, none_other, member_read}
use Rattle.log_entries.proofs.group.MemberItem.take.Goals as goal

pub returns-then-not-has_kind : goal.returns-then-not-has_kind
returns-then-not-has_kind c = none_begins c.args.bytes.now (λ long kind. false≢true (c.if-not-has_kind.ensures.1 (long, kind)))

pub returns-in_default : goal.returns-in_default
returns-in_default c =
    none_behind c.args.bytes.now _ _ c.read_head-head.ensures (whole_rest 19 c.args.bytes.now) (rw c.in_default.is at c.in_ok-records.ensures)

pub returns-then-not-is_commit : goal.returns-then-not-is_commit
returns-then-not-is_commit c =
    let read = rw c.in-Some.is at c.in_ok-records.ensures in
    none_other c.args.bytes.now _ _ _ c.in-Some.records.items c.read_head-head.ensures (whole_rest 19 c.args.bytes.now) read
    (λ is. false≢true (c.if-not-is_commit.ensures.1 (subst (IsHeadOf c.read_head-head.result) (sym c.as_slice.ensures.value) is)))

pub returns : goal.returns
returns c =
    let begins = c.if-not-has_kind.ensures.0 refl in
    let read = rw c.in-Some.is at c.in_ok-records.ensures in
    let is = subst (IsHeadOf c.read_head-head.result) c.as_slice.ensures.value (c.if-not-is_commit.ensures.0 refl) in
    let small : AreBytes c.args.bytes.now = λ i. omega (arith, c.type_inv.bytes i) in
    member_read c.args.bytes.now _ c.in-Some.rest.now c.read_head-head.result c.in-Some.records.items c.of.result (search rules) small begins.0 begins.1
    c.read_head-head.ensures (whole_rest 19 c.args.bytes.now) read is c.of.ensures
