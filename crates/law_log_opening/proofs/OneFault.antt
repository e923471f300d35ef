-- Of the same chains, one rule, one chain of anchors and one record at most is the first that fails.
use Rattle.std.proofs.Common.{◌≡◌, ℕ, ◌^◌, ◌<◌, inl, inr, List, [], ◌∷◌, ◌++◌, length, map, Option, refl, sym, ap, subst, ◌∙◌, arith}
use Rattle.std.specs.Prelude.{flat_map}
use Rattle.std.specs.List.{AllByRecursion}
use Rattle.std.proofs.lemmas.List.{nil_from_length}
use Rattle.history.specs.declared.key.Key.{Key}
use Rattle.law_image.specs.Values.{Value}
use Rattle.law_layout.specs.Records.{old_bytes}
use Rattle.law_layout.proofs.OpensAsOne.{olds_once}
use Rattle.log_extents.specs.Chains.{count_of, first_or, chain_of, AreDistinct, IsNumberOf}
use Rattle.log_extents.specs.Laws.{IsSameContent}
use Rattle.log_extents.specs.declared.chain_reader.ChainKind.TheVariants.{Anchors}
use Rattle.log_entries.specs.declared.entry.AnchorName.{AnchorName}
use Rattle.log_writer.specs.Turns.{extent_part}
use Rattle.law_log_layout.specs.Turns.{HoldsAll}
use Rattle.law_log_layout.specs.HeapLog.{PlacedAnchors, PlacedChain}
use Rattle.law_log_layout.proofs.Places.{distinct-parts}
use Rattle.log_recovery.specs.Taking.{IsHeldChain}
use Rattle.log_recovery.specs.Anchored.{AreRightAnchors, FailsAnchors}
use Rattle.log_recovery.specs.Members.{AreAllStored, FailsMembers, members_later, values_behind}
use Rattle.log_recovery.specs.Rules.{FailsRule, LogState, MayAllComeBehind, MayComeBehind, no_log, state_behind, state_from}
use Rattle.log_recovery.proofs.OneChain.{one_held}
use Rattle.log_recovery.proofs.Walking.{images_of_parts}

-- ---- the rules

may-at : (mark : ℕ) (s : LogState) (front : List PlacedChain) (c : PlacedChain) (back : List PlacedChain)
    → MayAllComeBehind mark s (front ++ c ∷ back) → MayComeBehind mark (state_from mark s front) c.entry
may-at mark s [] c back may = may.0
may-at mark s (d ∷ front) c back may = may-at mark (state_behind mark s d.entry) front c back may.1

-- where all chains keep the rules none breaks them
pub rules-kept : (mark : ℕ) (chains : List PlacedChain) (place : ℕ) → MayAllComeBehind mark no_log chains → FailsRule mark chains place → ⊥
rules-kept mark chains place may f =
    f.breaks (may-at mark no_log f.front f.chain f.back (subst (MayAllComeBehind mark no_log) f.chains_are may))

first-same : (mark : ℕ) (s : LogState) (front : List PlacedChain) (c : PlacedChain) (back others : List PlacedChain) (d : PlacedChain) (rest : List PlacedChain)
    → front ++ c ∷ back ≡ others ++ d ∷ rest
    → MayAllComeBehind mark s front → (MayComeBehind mark (state_from mark s front) c.entry → ⊥)
    → MayAllComeBehind mark s others → (MayComeBehind mark (state_from mark s others) d.entry → ⊥) → c ≡ d
first-same mark s [] c back [] d rest same may breaks mays breaks_d = cc
first-same mark s [] c back (o ∷ others) d rest same may breaks mays breaks_d =
    let one : o ≡ c = cc in
    absurd (breaks (subst (λ (x : PlacedChain). MayComeBehind mark s x.entry) one mays.0))
first-same mark s (f ∷ front) c back [] d rest same may breaks mays breaks_d =
    let one : f ≡ d = cc in
    absurd (breaks_d (subst (λ (x : PlacedChain). MayComeBehind mark s x.entry) one may.0))
first-same mark s (f ∷ front) c back (o ∷ others) d rest same may breaks mays breaks_d =
    let one : o ≡ f = cc in
    let later : front ++ c ∷ back ≡ others ++ d ∷ rest = cc in
    first-same mark (state_behind mark s f.entry) front c back others d rest later may.1 breaks
    (subst (λ (x : PlacedChain). MayAllComeBehind mark (state_behind mark s x.entry) others) one mays.1)
    (subst (λ (x : PlacedChain). MayComeBehind mark (state_from mark (state_behind mark s x.entry) others) d.entry → ⊥) one breaks_d)

pub rule-once : (mark : ℕ) (chains : List PlacedChain) (p q : ℕ) → FailsRule mark chains p → FailsRule mark chains q → p ≡ q
rule-once mark chains p q f g =
    let one : f.chain ≡ g.chain = first-same mark no_log f.front f.chain f.back g.front g.chain g.back (sym f.chains_are ∙ g.chains_are)
    f.front_keeps f.breaks g.front_keeps g.breaks in
    f.place_is ∙ ap (λ (c : PlacedChain). first_or 0 c.numbers) one ∙ sym g.place_is

-- ---- the anchors

held-anchors : (most number : ℕ) (heap ns xs : List ℕ) → AllByRecursion (IsNumberOf most) ns → AreDistinct ns → 0 < length ns
    → length ns ≡ count_of (length xs) → first_or 0 ns ≡ number → HoldsAll (map extent_part (chain_of 0 0 ns xs)) heap
    → IsHeldChain Anchors most number heap ns 0 xs
held-anchors most number heap ns xs range distinct some count first held = record {
  chain = record {
    first = first;
    link_is = refl;
    chain = record { some = omega (arith, some, count); count = count; in_range = range; distinct = distinct; images_are = refl };
  };
  held = images_of_parts heap 0 0 0 ns xs held;
}

content-same : (most number : ℕ) (heap ns ms xs ys : List ℕ) → most < 2 ^ 32
    → AllByRecursion (IsNumberOf most) ns → AllByRecursion (IsNumberOf most) ms → AreDistinct ns → AreDistinct ms
    → length ns ≡ count_of (length xs) → length ms ≡ count_of (length ys) → first_or 0 ns ≡ number → first_or 0 ms ≡ number
    → HoldsAll (map extent_part (chain_of 0 0 ns xs)) heap → HoldsAll (map extent_part (chain_of 0 0 ms ys)) heap → (ns ≡ ms) × (xs ≡ ys)
content-same most number heap [] [] xs ys few are_n are_m distinct_n distinct_m count_n count_m first_n first_m held_n held_m =
    (refl, nil_from_length xs (omega (arith, count_n)) ∙ sym (nil_from_length ys (omega (arith, count_m))))
content-same most number heap [] (m ∷ ms) xs ys few are_n are_m distinct_n distinct_m count_n count_m first_n first_m held_n held_m =
    absurd (omega (arith, first_n, first_m, are_m.0.0))
content-same most number heap (n ∷ ns) [] xs ys few are_n are_m distinct_n distinct_m count_n count_m first_n first_m held_n held_m =
    absurd (omega (arith, first_n, first_m, are_n.0.0))
content-same most number heap (n ∷ ns) (m ∷ ms) xs ys few are_n are_m distinct_n distinct_m count_n count_m first_n first_m held_n held_m =
    let same : IsSameContent (n ∷ ns) (m ∷ ms) 0 0 0 0 xs ys =
    one_held Anchors most number heap (n ∷ ns) (m ∷ ms) 0 0 xs ys few
    (held-anchors most number heap (n ∷ ns) xs are_n distinct_n (omega arith) count_n first_n held_n)
    (held-anchors most number heap (m ∷ ms) ys are_m distinct_m (omega arith) count_m first_m held_m) in
    (same.numbers_are, same.content_is)

-- one chain of anchors at most is the right one
pub anchors-same : (most mark : ℕ) (heap taken : List ℕ) (names : List AnchorName) (a b : PlacedAnchors) → most < 2 ^ 32
    → AreRightAnchors most mark heap taken names a → AreRightAnchors most mark heap taken names b → a ≡ b
anchors-same most mark heap taken [] a b few is_a is_b =
    let numbers : a.numbers ≡ b.numbers = is_a.named.0 ∙ sym is_b.named.0 in
    let records : a.records ≡ b.records = is_a.named.1 ∙ sym is_b.named.1 in
    λ i. record { numbers = numbers i; records = records i }
anchors-same most mark heap taken (name ∷ names) a b few is_a is_b =
    let same = content-same most name.first heap a.numbers b.numbers (flat_map old_bytes a.records) (flat_map old_bytes b.records) few
    is_a.placed.in_range is_b.placed.in_range (distinct-parts taken a.numbers is_a.apart).back (distinct-parts taken b.numbers is_b.apart).back
    is_a.placed.count is_b.placed.count is_a.named.0 is_b.named.0 is_a.held is_b.held in
    let records : a.records ≡ b.records = olds_once a.records b.records is_a.placed.each is_b.placed.each same.1 in
    λ i. record { numbers = same.0 i; records = records i }

pub anchors-fail-once : (most mark : ℕ) (heap taken : List ℕ) (names : List AnchorName) (p q : ℕ) → FailsAnchors most mark heap taken names p
    → FailsAnchors most mark heap taken names q → p ≡ q
anchors-fail-once most mark heap taken names p q f g =
    let both : f.name ∷ [] ≡ g.name ∷ [] = sym f.names_are ∙ g.names_are in
    let one : f.name ≡ g.name = cc in
    f.place_is ∙ ap (λ (name : AnchorName). name.first) one ∙ sym g.place_is

-- ---- the members

pub members-stored : (mark : ℕ) (before : Key → Option Value) (chains : List PlacedChain) (place : ℕ) → AreAllStored mark before chains
    → FailsMembers mark before chains place → ⊥
members-stored mark before [] place stored fails = fails
members-stored mark before (c ∷ chains) place stored (inl here) = here.1 stored.0
members-stored mark before (c ∷ chains) place stored (inr later) =
    members-stored mark (values_behind before (members_later mark c)) chains place stored.1 later.1

pub members-fail-once : (mark : ℕ) (before : Key → Option Value) (chains : List PlacedChain) (p q : ℕ) → FailsMembers mark before chains p
    → FailsMembers mark before chains q → p ≡ q
members-fail-once mark before [] p q f g = absurd f
members-fail-once mark before (c ∷ chains) p q (inl f) (inl g) = f.0 ∙ sym g.0
members-fail-once mark before (c ∷ chains) p q (inl f) (inr g) = absurd (f.1 g.0)
members-fail-once mark before (c ∷ chains) p q (inr f) (inl g) = absurd (g.1 f.0)
members-fail-once mark before (c ∷ chains) p q (inr f) (inr g) =
    members-fail-once mark (values_behind before (members_later mark c)) chains p q f.1 g.1
