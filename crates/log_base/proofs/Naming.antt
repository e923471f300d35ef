-- The names of commits in the order of a roll.
use Rattle.std.proofs.Common.{◌≡◌, ◌≢◌, ℕ, suc, ◌+◌, ◌<◌, ◌≤◌, ◌==◌, nat_lt, Bool, true, false, cond, List, [], ◌∷◌, length, map, get_or, refl, sym, subst, ◌∙◌}
use Rattle.std.proofs.Common.{arith, inl, inr}
use Rattle.std.specs.Prelude.{◌⊎◌, filter, if◌then◌else◌}
use Rattle.std.specs.List.{sum_by}
use Rattle.std.specs.List.Sorted.{IsPermutation, IsSorted}
use Rattle.std.specs.Ordering.{nat_cmp, ordering_then, is_lt}
use Rattle.std.specs.declared.cmp.Ordering.{Ordering}
use Rattle.std.proofs.lemmas.Bool.{cases_lt, cases_eq}
use Rattle.std.proofs.lemmas.Bool.Decides.{nat_tests}
use Rattle.std.proofs.lemmas.List.Sums.{sum_by-cons}
use Rattle.std.proofs.lemmas.List.Sorted.{IsPermutation-map, IsPermutation-sym, Contains-permutation, length_permutation, sum_by-IsPermutation}
use Rattle.law_image.specs.Reading.{Head}
use Rattle.law_image.proofs.GroupStep.{length-map}
use Rattle.law_layout.proofs.Lists.{weaker}
use Rattle.group.specs.declared.commit_order.CommitHead.{CommitHead}
use Rattle.group.specs.CommitOrder.{IsRisingAfter}
use Rattle.law_log_layout.specs.HeapLog.{IsNamedBefore, AreNamedInOrder}
use Rattle.log_base.specs.declared.names.Name.{Name}
use Rattle.log_base.specs.Names.{name_of, head_of, is_between, named_between, AreNamesBetween}

-- ---- each time once

-- one for a name of this time
abbrev at_time : ℕ → Head → ℕ
at_time time head = if head.time == time then 1 else 0

at-same : (time : ℕ) (head : Head) → head.time ≡ time → at_time time head ≡ 1
at-same time head is = let same : (head.time == time) ≡ true = grind (arith, nat_tests) in rw same refl

at-other : (time : ℕ) (head : Head) → head.time ≢ time → at_time time head ≡ 0
at-other time head differs = let apart : (head.time == time) ≡ false = grind (arith, nat_tests) in rw apart refl

none-early : (p : CommitHead → Bool) (early time : ℕ) (heads : List CommitHead) → early ≤ time → IsRisingAfter time heads
    → sum_by (at_time early) (map name_of (filter p heads)) ≡ 0
none-early p early time [] le up = refl
none-early p early time (h ∷ hs) le up =
    let rest = none-early p early h.time hs (omega (arith, le, up.0)) up.2 in
    let zero = at-other early (name_of h) (λ e. absurd (omega (arith, le, up.0, e))) in
    elim (p h) as (λ b. sum_by (at_time early) (map name_of (cond b (h ∷ filter p hs) (filter p hs))) ≡ 0) [
      | true ↦ sum_by-cons (at_time early) (name_of h) (map name_of (filter p hs)) ∙ omega (arith, zero, rest)
      | false ↦ rest
    ]

once : (p : CommitHead → Bool) (early time : ℕ) (heads : List CommitHead) → IsRisingAfter time heads
    → sum_by (at_time early) (map name_of (filter p heads)) ≤ 1
once p early time [] up = omega arith
once p early time (h ∷ hs) up =
    let rest = once p early h.time hs up.2 in
    let more = sum_by-cons (at_time early) (name_of h) (map name_of (filter p hs)) in
    elim (p h) as (λ b. sum_by (at_time early) (map name_of (cond b (h ∷ filter p hs) (filter p hs))) ≤ 1) [
      | true ↦ subst (λ (n : ℕ). n ≤ 1) (sym more) (first-one (cases_eq h.time early) rest)
      | false ↦ rest
    ]
  where
    first-one : (h.time ≡ early) ⊎ (h.time ≢ early) → sum_by (at_time early) (map name_of (filter p hs)) ≤ 1
        → at_time early (name_of h) + sum_by (at_time early) (map name_of (filter p hs)) ≤ 1
    first-one (inl is) rest =
        let one = at-same early (name_of h) is in
        let none = none-early p early h.time hs (omega (arith, is)) up.2 in
        omega (arith, one, none)
    first-one (inr other) rest = let zero = at-other early (name_of h) other in omega (arith, zero, rest)

-- ---- in order

-- names as they are sorted: by label, and then by time
abbrev name_cmp : Name → Name → Ordering
name_cmp a b = ordering_then (nat_cmp a.label b.label) (nat_cmp a.time b.time)

first-before : (a b : Name) → is_lt (name_cmp b a) ≡ false → a.time ≢ b.time → IsNamedBefore (head_of a) (head_of b)
first-before a b not_less apart =
    elim (cases_lt a.label b.label) [
      | inl less ↦ inl less
      | inr le ↦
          elim (cases_eq b.label a.label) [
            | inl same ↦
                elim (cases_lt b.time a.time) [
                  | inl late ↦
                      let one : nat_lt b.label a.label ≡ false = grind (arith, nat_tests) in
                      let two : (b.label == a.label) ≡ true = grind (arith, nat_tests) in
                      let three : nat_lt b.time a.time ≡ true = grind (arith, nat_tests) in
                      let no : true ≡ false = rw (three) at (rw (two) at (rw (one) at not_less)) in
                      absurd cc
                  | inr early ↦ inr (sym same, omega (arith, early, apart))
                ]
            | inr other ↦
                let one : nat_lt b.label a.label ≡ true = grind (arith, nat_tests) in
                let no : true ≡ false = rw (one) at not_less in
                absurd cc
          ]
    ]

before-trans : (a b c : Head) → IsNamedBefore a b → IsNamedBefore b c → IsNamedBefore a c
before-trans a b c (inl x) (inl y) = inl (omega (arith, x, y))
before-trans a b c (inl x) (inr y) = inl (omega (arith, x, y.0))
before-trans a b c (inr x) (inl y) = inl (omega (arith, x.0, y))
before-trans a b c (inr x) (inr y) = inr (x.0 ∙ y.0, omega (arith, x.1, y.1))

two-apart : (y z : Name) (zs : List Name) → sum_by (at_time y.time) (map head_of (y ∷ z ∷ zs)) ≤ 1 → y.time ≢ z.time
two-apart y z zs one same =
    let f = at_time y.time in
    let all = sum_by-cons f (head_of y) (map head_of (z ∷ zs)) in
    let more = sum_by-cons f (head_of z) (map head_of zs) in
    let first = at-same y.time (head_of y) refl in
    let second = at-same y.time (head_of z) (sym same) in
    omega (arith, one, all, more, first, second)

named : (ys : List Name) → ((k : ℕ) (d : Name) → k + 1 < length ys → is_lt (name_cmp (get_or ys (k + 1) d) (get_or ys k d)) ≡ false)
    → ((time : ℕ) → sum_by (at_time time) (map head_of ys) ≤ 1) → AreNamedInOrder (map head_of ys)
named [] up one = tt
named (y ∷ []) up one = (tt, tt)
named (y ∷ z ∷ zs) up one =
    let rest = named (z ∷ zs)
    (λ k d low. subst (λ (n : ℕ). is_lt (name_cmp (get_or (y ∷ z ∷ zs) n d) (get_or (z ∷ zs) k d)) ≡ false) (let e : suc k + 1 ≡ suc (k + 1) = omega arith in e)
    (up (suc k) d (omega (arith, low))))
    (λ time. let all = one time in let more = sum_by-cons (at_time time) (head_of y) (map head_of (z ∷ zs)) in omega (arith, all, more)) in
    let first = first-before y z (up 0 y (omega arith)) (two-apart y z zs (one y.time)) in
    let later = λ (h : Head) (is : IsNamedBefore (head_of z) h). before-trans (head_of y) (head_of z) h first is in
    ((first, weaker (IsNamedBefore (head_of z)) (IsNamedBefore (head_of y)) (map head_of zs) later rest.0), rest)

-- ---- all of it

pub names-between : (after upto : ℕ) (heads : List CommitHead) (xs ys : List Name) → IsRisingAfter 0 heads
    → map head_of xs ≡ map name_of (named_between after upto heads) → IsPermutation xs ys → IsSorted name_cmp ys
    → AreNamesBetween after upto heads (map head_of ys)
names-between after upto heads xs ys rising are moved sorted =
    let picked = named_between after upto heads in
    let there : IsPermutation (map name_of picked) (map head_of ys) =
    subst (λ (l : List Head). IsPermutation l (map head_of ys)) are (IsPermutation-map head_of xs ys moved) in
    let back = IsPermutation-sym (map name_of picked) (map head_of ys) there in
    record {
      in_order = named ys (λ k d low. sorted k d (omega arith) low) (λ time.
          let same = sum_by-IsPermutation (at_time time) (map name_of picked) (map head_of ys) there in
          let few = once (is_between after upto) time 0 heads rising in
          omega (arith, same, few));
      same = λ head. (
        λ has. Contains-permutation (map head_of ys) (map name_of picked) head back has,
        λ has. Contains-permutation (map name_of picked) (map head_of ys) head there has,
      );
      many = length_permutation (map name_of picked) (map head_of ys) there ∙ length-map name_of picked;
    }
