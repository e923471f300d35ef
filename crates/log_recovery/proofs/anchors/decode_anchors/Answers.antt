use Rattle.std.proofs.Common.{◌≡◌, List, ◌++◌, ℕ, length, map, refl, sym, ◌∙◌, ap, subst, arith}
use Rattle.std.specs.Prelude.{flat_map}
use Rattle.std.specs.List.Sorted.{IsStrictlySortedBy}
use Rattle.std.proofs.lemmas.List.{append-nil, nil_from_length}
use Rattle.std.proofs.lemmas.Bool.{false≢true}
use Rattle.std.proofs.lemmas.Bool.Decides.{nat_tests}
use Rattle.history.specs.Key.{key_cmp}
use Rattle.deltas.specs.declared.«record».Record.{Record}
use Rattle.deltas.specs.Records.{spelling}
use Rattle.log_recovery.proofs.AnchorBytes.{none_in, same_anchors, each_anchor, each_permitted}
use Rattle.log_recovery.proofs.anchors.decode_anchors.Goals as goal

pub returns-in_default : goal.returns-in_default
returns-in_default c =
    let fewer = rw c.in_default.is at c.in_ok-records.ensures in
    none_in c.args.mark c.args.count c.args.bytes.now fewer

pub returns-then-not-is_empty : goal.returns-then-not-is_empty
returns-then-not-is_empty c = λ records are.
    let read = rw c.in-Some.is at c.in_ok-records.ensures in
    let same = same_anchors c.args.mark c.args.count c.args.bytes.now c.in-Some.rest.now c.in-Some.records.items records read.0 read.1 read.2 are in
    let len : length c.in-Some.rest.now ≡ 0 = ap (λ (l : List ℕ). length l) same.1 in
    grind (arith, nat_tests)

pub returns-then-not-are_rising : goal.returns-then-not-are_rising
returns-then-not-are_rising c = λ records are.
    let read = rw c.in-Some.is at c.in_ok-records.ensures in
    let same = same_anchors c.args.mark c.args.count c.args.bytes.now c.in-Some.rest.now c.in-Some.records.items records read.0 read.1 read.2 are in
    let slice : records ≡ c.as_slice.result.now = sym (c.as_slice.ensures.value ∙ same.0) in
    false≢true (c.if-not-are_rising.ensures.1 (subst (λ (l : List Record). IsStrictlySortedBy key_cmp (map (λ r. r.key) l)) slice are.are.rising))

pub returns : goal.returns
returns c =
    let read = rw c.in-Some.is at c.in_ok-records.ensures in
    let none = nil_from_length c.in-Some.rest.now (grind (arith, nat_tests)) in
    record {
      are = record {
        each = each_anchor c.args.mark c.in-Some.records.items read.0;
        permitted = each_permitted c.args.mark c.in-Some.records.items read.0;
        rising = subst (λ (l : List Record). IsStrictlySortedBy key_cmp (map (λ r. r.key) l)) c.as_slice.ensures.value
            (c.if-not-are_rising.ensures.0 refl);
      };
      count_is = read.1;
      bytes_are = read.2 ∙ ap (λ (l : List ℕ). flat_map spelling c.in-Some.records.items ++ l) none
          ∙ append-nil (flat_map spelling c.in-Some.records.items);
    }
