-- Extents taken into use one after the other.
use Rattle.std.proofs.Common.{◌≡◌, ◌≢◌, ℕ, refl, ◌-◌, ◌+◌, ◌<◌, ◌≤◌, ◌↔◌, Bool, true, false, List, [], ◌∷◌, ◌++◌, length, get_or}
use Rattle.std.proofs.Common.{replicate, slice_set, sym, ◌∙◌, ap, subst, arith, inl, inr}
use Rattle.std.specs.List.{All, AllByRecursion}
use Rattle.std.specs.Prelude.{IsTrue, if◌then◌else◌}
use Rattle.std.proofs.lemmas.Bool.{cases_lt, cases_eq}
use Rattle.std.proofs.lemmas.List.{get_or_past, get_or-set_other, get_or-replicate, length-set, length-replicate, set-get_or}
use Rattle.std.proofs.lemmas.List.Sums.{sum_by-le, sum_by-set}
use Rattle.std.proofs.lemmas.List.Folds.{sum_by-replicate}
use Rattle.std.proofs.lemmas.List.Elements.{All-from_get_or}
use Rattle.std.proofs.lemmas.Grind.{get_or-set_at}
use Rattle.log_extents.specs.Chains.{IsNumberOf, IsNew, AreDistinct}
use Rattle.log_space.specs.Uses.{IsFree, with_use, all_used, one_if_used, used_count}
use Rattle.log_space.specs.Laws.{IsOneMore}

-- ---- counts

at_most_one : (flag : Bool) → one_if_used flag ≤ 1
at_most_one true = omega arith
at_most_one false = omega arith

pub used_at_most : (used : List Bool) → used_count used ≤ length used
used_at_most used =
    let each : All (λ flag. one_if_used flag ≤ 1) used =
    All-from_get_or (λ flag. one_if_used flag ≤ 1) used false (λ i lt. at_most_one (get_or used i false)) in
    let most = sum_by-le one_if_used 1 used each in
    omega (arith, most)

pub none_used : (n : ℕ) → used_count (replicate n false) ≡ 0
none_used n = sum_by-replicate one_if_used n false ∙ omega arith

-- an extent that is free has its place in the list
pub within : (used : List Bool) (place : ℕ) → get_or used place true ≡ false → place < length used
within used place is = elim (cases_lt place (length used)) [
  | inl lt ↦ lt
  | inr le ↦ absurd (let no : true ≡ false = sym (get_or_past used place true le) ∙ is in cc)
]

pub one_more : (used : List Bool) (place : ℕ) → get_or used place true ≡ false → used_count (slice_set used place true) ≡ used_count used + 1
one_more used place free =
    let lt = within used place free in
    let sums = sum_by-set one_if_used used place true true lt in
    let was : one_if_used (get_or used place true) ≡ 0 = ap one_if_used free in
    omega (arith, sums, was)

-- so one more can be counted
pub room_for_one : (used : List Bool) (place : ℕ) → get_or used place true ≡ false → used_count used + 1 ≤ length used
room_for_one used place free =
    let one = one_more used place free in
    let most = used_at_most (slice_set used place true) in
    omega (arith, one, most, length-set used place true)

pub is_one_more : (used : List Bool) (number : ℕ) → IsFree used number → IsOneMore used (with_use used number true)
is_one_more used number free = record { count = one_more used (number - 1) free.is; len = length-set used (number - 1) true }

-- what is in use already may be taken again
pub claimed : (used : List Bool) (number : ℕ) → 0 < number → (is : Bool) → (IsTrue is ↔ IsFree used number)
    → (if is then with_use used number true else used) ≡ with_use used number true
claimed used number low true free = refl
claimed used number low false free = by-flag (get_or used (number - 1) true) refl
  where
    by-flag : (flag : Bool) → get_or used (number - 1) true ≡ flag → used ≡ with_use used number true
    by-flag true is = sym (set-get_or used (number - 1) true) ∙ ap (λ (b : Bool). slice_set used (number - 1) b) is
    by-flag false is = absurd
        (let no = free.1 (record { low = low; high = let lt = within used (number - 1) is in omega (arith, lt, low); is = is }) in cc)

-- at most one more is in use
pub at_most_one_more : (used : List Bool) (place : ℕ) → used_count (slice_set used place true) ≤ used_count used + 1
at_most_one_more used place = by-flag (get_or used place true) refl
  where
    by-flag : (flag : Bool) → get_or used place true ≡ flag → used_count (slice_set used place true) ≤ used_count used + 1
    by-flag true is =
        let same : used_count (slice_set used place true) ≡ used_count used =
        ap used_count (ap (λ (b : Bool). slice_set used place b) (sym is) ∙ set-get_or used place true) in
        omega (arith, same)
    by-flag false is = let one = one_more used place is in omega (arith, one)

-- ---- one extent of a list

-- one in use stays so where others are taken too
used_by_one : (used : List Bool) (place other : ℕ) → get_or used other true ≡ true → get_or (slice_set used place true) other true ≡ true
used_by_one used place other is = elim (cases_eq other place) [
  | inl same ↦ elim (cases_lt place (length used)) [
    | inl lt ↦ get_or-set_at used place other true true same lt
    | inr past ↦ get_or_past (slice_set used place true) other true (omega (arith, length-set used place true))
  ]
  | inr apart ↦ get_or-set_other used place other true true apart ∙ is
]

used_now : (used : List Bool) (place : ℕ) → get_or (slice_set used place true) place true ≡ true
used_now used place = elim (cases_lt place (length used)) [
  | inl lt ↦ get_or-set_at used place place true true refl lt
  | inr past ↦ get_or_past (slice_set used place true) place true (omega (arith, length-set used place true))
]

used_by_all : (used : List Bool) (numbers : List ℕ) (place : ℕ) → get_or used place true ≡ true → get_or (all_used used numbers) place true ≡ true
used_by_all used [] place is = is
used_by_all used (n ∷ ns) place is = used_by_all (with_use used n true) ns place (used_by_one used (n - 1) place is)

-- one that is left is none of them
none_left : (used : List Bool) (numbers : List ℕ) (number : ℕ) → get_or (all_used used numbers) (number - 1) true ≡ false → IsNew number numbers
none_left used [] number free = tt
none_left used (n ∷ ns) number free = (
  λ same. let now : get_or (all_used (with_use used n true) ns) (n - 1) true ≡ true =
      used_by_all (with_use used n true) ns (n - 1) (used_now used (n - 1)) in
      let free' = subst (λ m. get_or (all_used (with_use used n true) ns) (m - 1) true ≡ false) (sym same) free in
      let no : true ≡ false = sym now ∙ free' in cc,
  none_left (with_use used n true) ns number free,
)

-- and any other is as it was
stays_at : (used : List Bool) (most : ℕ) (numbers : List ℕ) (number : ℕ) → AllByRecursion (IsNumberOf most) numbers → 0 < number → IsNew number numbers
    → get_or (all_used used numbers) (number - 1) true ≡ get_or used (number - 1) true
stays_at used most [] number each low none = refl
stays_at used most (n ∷ ns) number each low none =
    let least = each.0.0 in
    let apart : n ≢ number = none.0 in
    let places : number - 1 ≢ n - 1 = λ same. apart (omega (arith, same, least, low)) in
    stays_at (with_use used n true) most ns number each.1 low none.1 ∙ get_or-set_other used (n - 1) (number - 1) true true places

pub all_used_len : (used : List Bool) (numbers : List ℕ) → length (all_used used numbers) ≡ length used
all_used_len used [] = refl
all_used_len used (n ∷ ns) = all_used_len (with_use used n true) ns ∙ length-set used (n - 1) true

-- ---- all of a list

heap_len : (most : ℕ) (numbers : List ℕ) → length (all_used (replicate most false) numbers) ≡ most
heap_len most numbers = all_used_len (replicate most false) numbers ∙ length-replicate most false

pub others_are_free : (most : ℕ) (numbers : List ℕ) (number : ℕ) → AllByRecursion (IsNumberOf most) numbers
    → IsFree (all_used (replicate most false) numbers) number ↔ (IsNumberOf most number × IsNew number numbers)
others_are_free most numbers number each = (
  λ free. (
    (free.low, subst (λ len. number ≤ len) (heap_len most numbers) free.high),
    none_left (replicate most false) numbers number free.is,
  ),
  λ is. let low = is.0.0 in let high = is.0.1 in record {
    low = low;
    high = subst (λ len. number ≤ len) (sym (heap_len most numbers)) high;
    is = stays_at (replicate most false) most numbers number each low is.1 ∙ get_or-replicate most (number - 1) false true (omega (arith, low, high));
  },
)

-- each of these is free, so taken into use they are counted
count_from : (used : List Bool) (numbers : List ℕ) → AllByRecursion (IsFree used) numbers → AreDistinct numbers
    → used_count (all_used used numbers) ≡ used_count used + length numbers
count_from used [] free distinct = omega arith
count_from used (n ∷ ns) free distinct =
    let rest = count_from (with_use used n true) ns (still_free ns free.1 distinct.0) distinct.1 in
    let one = one_more used (n - 1) free.0.is in
    omega (arith, rest, one)
  where
    still_free : (ms : List ℕ) → AllByRecursion (IsFree used) ms → IsNew n ms → AllByRecursion (IsFree (with_use used n true)) ms
    still_free [] all none = tt
    still_free (m ∷ ms) all none =
        let low = free.0.low in
        let low' = all.0.low in
        let apart : m ≢ n = none.0 in
        let places : m - 1 ≢ n - 1 = λ same. apart (omega (arith, same, low, low')) in (
          record {
            low = all.0.low;
            high = subst (λ len. m ≤ len) (sym (length-set used (n - 1) true)) all.0.high;
            is = get_or-set_other used (n - 1) (m - 1) true true places ∙ all.0.is;
          },
          still_free ms all.1 none.1,
        )

all_free : (most : ℕ) (numbers : List ℕ) → AllByRecursion (IsNumberOf most) numbers → AllByRecursion (IsFree (replicate most false)) numbers
all_free most [] each = tt
all_free most (n ∷ ns) each =
    let low = each.0.0 in
    let high = each.0.1 in (
      record {
        low = low;
        high = subst (λ len. n ≤ len) (sym (length-replicate most false)) high;
        is = get_or-replicate most (n - 1) false true (omega (arith, low, high));
      },
      all_free most ns each.1,
    )

pub used_are_counted : (most : ℕ) (numbers : List ℕ) → AllByRecursion (IsNumberOf most) numbers → AreDistinct numbers
    → used_count (all_used (replicate most false) numbers) ≡ length numbers
used_are_counted most numbers each distinct =
    let all = count_from (replicate most false) numbers (all_free most numbers each) distinct in
    let none = none_used most in
    omega (arith, all, none)

pub used_in_turn : (used : List Bool) (numbers others : List ℕ) → all_used used (numbers ++ others) ≡ all_used (all_used used numbers) others
used_in_turn used [] others = refl
used_in_turn used (n ∷ ns) others = used_in_turn (with_use used n true) ns others
