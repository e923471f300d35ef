use Rattle.std.proofs.Common.{◌≡◌, ℕ, List, length, sym, refl, ap, subst, arith}
use Rattle.std.proofs.lemmas.List.{nil_from_length}
use Rattle.std.proofs.lemmas.Bool.{false≢true}
use Rattle.std.proofs.lemmas.Bool.Decides.{nat_tests}
use Rattle.log_entries.specs.declared.entry.Base.{Base}
use Rattle.log_entries.specs.Ranges.{IsWhole}
use Rattle.log_entries.proofs.Bases.{read_only, base_begins, whole_read}
use Rattle.log_entries.proofs.base.take_base.Goals as goal

pub returns-then-not-has_kind : goal.returns-then-not-has_kind
returns-then-not-has_kind c = λ base is same. false≢true (c.if-not-has_kind.ensures.1 (base_begins c.args.bytes.now base is.parts same))

pub returns-then-not-is_empty : goal.returns-then-not-is_empty
returns-then-not-is_empty c = λ base is same.
    let none = (read_only c.args.bytes.now c.in_ok-base.rest.now c.in_ok-base.base base c.in_ok-base.ensures is.parts same).1 in
    let len : length c.in_ok-base.rest.now ≡ 0 = ap (λ (l : List ℕ). length l) none in
    grind (arith, nat_tests)

pub returns-then-not-is_whole : goal.returns-then-not-is_whole
returns-then-not-is_whole c = λ base is same.
    let found = (read_only c.args.bytes.now c.in_ok-base.rest.now c.in_ok-base.base base c.in_ok-base.ensures is.parts same).0 in
    false≢true (c.if-not-is_whole.ensures.1 (subst (λ (b : Base). IsWhole c.args.most b) (sym found) is.whole))

pub returns : goal.returns
returns c =
    let none = nil_from_length c.in_ok-base.rest.now (grind (arith, nat_tests)) in
    whole_read c.args.bytes.now c.in_ok-base.rest.now c.args.most c.in_ok-base.base c.in_ok-base.ensures none (c.if-not-is_whole.ensures.0 refl)
