-- Extents claimed one after the other.
use Rattle.std.proofs.Common.{◌≡◌, ◌≢◌, ℕ, zero, suc, refl, ◌-◌, ◌+◌, ◌<◌, ◌≤◌, ◌↔◌, List, [], ◌∷◌, ◌++◌, ◌⊎◌, length, get_or, take, drop, replicate, slice_set}
use Rattle.std.proofs.Common.{sym, ◌∙◌, ap, subst, arith, inl, inr, append_assoc, length-append}
use Rattle.std.specs.Prelude.{Contains}
use Rattle.std.specs.List.{AllByRecursion}
use Rattle.std.proofs.lemmas.Bool.{cases_lt, cases_eq}
use Rattle.std.proofs.lemmas.List.{get_or_past, get_or-set_other, get_or-replicate, length-set, take_more, take-append-drop, take_all}
use Rattle.std.proofs.lemmas.Grind.{get_or-set_at}
use Rattle.extents.specs.declared.usage.Usage.{Usage}
use Rattle.extents.specs.declared.usage.Usage.TheVariants.{Free, Kept}
use Rattle.extents.specs.Usages.{IsFree, IsKept, with_usage, with_usages, IsNoneOf, used_count}
use Rattle.extents.specs.Live.{IsNumber, AreLive, usages_of_live, IsFirstNotFree}
use Rattle.extents.proofs.Frames.{distinct-push, all-push, one_more_used}

-- ---- one extent of a list

-- one that is kept stays so where others are kept too
kept_by_one : (usages : List Usage) (place other : ℕ) → get_or usages other Kept ≡ Kept → get_or (slice_set usages place Kept) other Kept ≡ Kept
kept_by_one usages place other is = elim (cases_eq other place) [
  | inl same ↦ elim (cases_lt place (length usages)) [
    | inl lt ↦ get_or-set_at usages place other Kept Kept same lt
    | inr past ↦ get_or_past (slice_set usages place Kept) other Kept (omega (arith, length-set usages place Kept))
  ]
  | inr apart ↦ get_or-set_other usages place other Kept Kept apart ∙ is
]

kept_now : (usages : List Usage) (place : ℕ) → get_or (slice_set usages place Kept) place Kept ≡ Kept
kept_now usages place = elim (cases_lt place (length usages)) [
  | inl lt ↦ get_or-set_at usages place place Kept Kept refl lt
  | inr past ↦ get_or_past (slice_set usages place Kept) place Kept (omega (arith, length-set usages place Kept))
]

kept_by_all : (usages : List Usage) (numbers : List ℕ) (number : ℕ) → get_or usages (number - 1) Kept ≡ Kept
    → get_or (with_usages usages numbers Kept) (number - 1) Kept ≡ Kept
kept_by_all usages [] number is = is
kept_by_all usages (n ∷ ns) number is = kept_by_all (with_usage usages n Kept) ns number (kept_by_one usages (n - 1) (number - 1) is)

-- each of the list is kept
kept_at : (usages : List Usage) (numbers : List ℕ) (number k : ℕ) → k < length numbers → get_or numbers k number ≡ number
    → get_or (with_usages usages numbers Kept) (number - 1) Kept ≡ Kept
kept_at usages [] number k lt is = absurd (omega (arith, lt))
kept_at usages (n ∷ ns) number zero lt is =
    let now : get_or (with_usage usages n Kept) (number - 1) Kept ≡ Kept =
    subst (λ m. get_or (with_usage usages n Kept) (m - 1) Kept ≡ Kept) is (kept_now usages (n - 1)) in
    kept_by_all (with_usage usages n Kept) ns number now
kept_at usages (n ∷ ns) number (suc k) lt is = kept_at (with_usage usages n Kept) ns number k (omega (arith, lt)) is

-- and any other as it was
stays_at : (usages : List Usage) (numbers : List ℕ) (number : ℕ) → AllByRecursion IsNumber numbers → 1 ≤ number → IsNoneOf number numbers
    → get_or (with_usages usages numbers Kept) (number - 1) Kept ≡ get_or usages (number - 1) Kept
stays_at usages [] number each low none = refl
stays_at usages (n ∷ ns) number each low none =
    let least = each.0.0 in
    let apart : n ≢ number = none.0 in
    let places : number - 1 ≢ n - 1 = λ same. apart (omega (arith, same, least, low)) in
    stays_at (with_usage usages n Kept) ns number each.1 low none.1 ∙ get_or-set_other usages (n - 1) (number - 1) Kept Kept places

none_or_there : (numbers : List ℕ) (number : ℕ) → IsNoneOf number numbers ⊎ Contains numbers number
none_or_there [] number = inl tt
none_or_there (n ∷ ns) number = elim (cases_eq n number) [
  | inl same ↦ inr (0, omega arith, same)
  | inr apart ↦ elim (none_or_there ns number) [
    | inl none ↦ inl (apart, none)
    | inr there ↦ inr (suc there.0, omega (arith, there.1), there.2)
  ]
]

-- ---- the extents of a list

free_of_none : (numbers : List ℕ) (number : ℕ) → AllByRecursion IsNumber numbers → IsNumber number → IsNoneOf number numbers
    → IsFree (usages_of_live numbers) number
free_of_none numbers number each is none = record {
  low = is.0;
  high = is.1;
  is = (let high = is.1 in let low = is.0 in stays_at (replicate 65536 Free) numbers number each is.0 none
      ∙ get_or-replicate 65536 (number - 1) Free Kept (omega (arith, low, high)));
}

number_there : (numbers : List ℕ) (number : ℕ) → AllByRecursion IsNumber numbers → Contains numbers number → IsNumber number
number_there numbers number each there = at numbers each there.0 there.1 there.2
  where
    at : (ns : List ℕ) → AllByRecursion IsNumber ns → (k : ℕ) → k < length ns → get_or ns k number ≡ number → IsNumber number
    at [] all k lt is = absurd (omega (arith, lt))
    at (n ∷ ns) all zero lt is = subst IsNumber is all.0
    at (n ∷ ns) all (suc k) lt is = at ns all.1 k (omega (arith, lt)) is

pub kept_are : (numbers : List ℕ) (number : ℕ) → AllByRecursion IsNumber numbers → IsKept (usages_of_live numbers) number ↔ Contains numbers number
kept_are numbers number each = (
  λ kept. elim (none_or_there numbers number) [
    | inl none ↦ absurd (let free = (free_of_none numbers number each (kept.low, kept.high) none).is in let is = kept.is in let no : Free ≡ Kept = sym free
        ∙ is in cc)
    | inr there ↦ there
  ],
  λ there. let is =
      number_there numbers number each there in record { low = is.0; high = is.1; is = kept_at (replicate 65536 Free) numbers number there.0 there.1 there.2 },
)

pub free_are : (numbers : List ℕ) (number : ℕ) → AllByRecursion IsNumber numbers → IsFree (usages_of_live numbers) number
    ↔ (IsNumber number × (Contains numbers number → ⊥))
free_are numbers number each = (
  λ free. (
    (free.low, free.high),
    λ there. let kept = ((kept_are numbers number each).1 there).is in let is = free.is in let no : Free ≡ Kept = sym is
        ∙ kept in cc,
  ),
  λ is. elim (none_or_there numbers number) [ inl none ↦ free_of_none numbers number each is.0 none | inr there ↦ absurd (is.1 there) ],
)

-- ---- one claim after the other

-- these numbers are claimed, and no others
pub record AreClaimed (usages : List Usage) (numbers : List ℕ) : Type 0 where
  pub live : AreLive numbers
  pub usages_are : usages ≡ usages_of_live numbers
  pub counted : used_count usages ≡ length numbers

with_usages-push : (usages : List Usage) (numbers : List ℕ) (number : ℕ) → with_usages usages (numbers ++ number ∷ []) Kept
    ≡ with_usage (with_usages usages numbers Kept) number Kept
with_usages-push usages [] number = refl
with_usages-push usages (n ∷ ns) number = with_usages-push (with_usage usages n Kept) ns number

pub one_claimed : (usages : List Usage) (numbers : List ℕ) (number : ℕ) → AreClaimed usages numbers → IsFree usages number
    → AreClaimed (with_usage usages number Kept) (numbers ++ number ∷ [])
one_claimed usages numbers number claimed free =
    let is = (free_are numbers number claimed.live.each).0 (subst (λ u. IsFree u number) claimed.usages_are free) in
    let none : IsNoneOf number numbers = elim (none_or_there numbers number) [ inl none ↦ none | inr there ↦ absurd (is.1 there) ] in
    let more = one_more_used usages number Kept (λ e. cc) free in
    let before = claimed.counted in
    record {
      live = record { each = all-push IsNumber numbers number claimed.live.each is.0; distinct = distinct-push numbers number none claimed.live.distinct };
      usages_are = ap (λ u. with_usage u number Kept) claimed.usages_are ∙ sym (with_usages-push (replicate 65536 Free) numbers number);
      counted = omega (arith, more, before, length-append numbers (number ∷ []));
    }

-- one more of a list
pub next_claimed : (usages after : List Usage) (numbers : List ℕ) (i number : ℕ) → i < length numbers → number ≡ get_or numbers i 0
    → AreClaimed usages (take i numbers) → IsFree usages number → after ≡ with_usage usages number Kept
    → AreClaimed after (take (i + 1) numbers)
next_claimed usages after numbers i number lt is claimed free same =
    let more : take (i + 1) numbers ≡ take i numbers ++ number ∷ [] = take_more numbers i 0 lt ∙ ap (λ n. take i numbers ++ n ∷ []) (sym is) in
    subst (λ l. AreClaimed after l) (sym more)
    (subst (λ u. AreClaimed u (take i numbers ++ number ∷ [])) (sym same) (one_claimed usages (take i numbers) number claimed free))

pub all_claimed : (usages : List Usage) (numbers : List ℕ) (i : ℕ) → length numbers ≤ i → AreClaimed usages (take i numbers) → AreClaimed usages numbers
all_claimed usages numbers i past claimed = subst (λ l. AreClaimed usages l) (take_all i numbers past) claimed

-- the first that is not claimed
pub none_claims : (usages : List Usage) (numbers : List ℕ) (i number : ℕ) → i < length numbers → number ≡ get_or numbers i 0
    → AreClaimed usages (take i numbers) → (IsFree usages number → ⊥) → IsFirstNotFree numbers number
none_claims usages numbers i number lt is claimed not = record {
  before = take i numbers;
  after = drop (i + 1) numbers;
  is = sym (take-append-drop (i + 1) numbers) ∙ ap (λ l. l ++ drop (i + 1) numbers) (take_more numbers i 0 lt ∙ ap (λ n. take i numbers ++ n ∷ []) (sym is))
      ∙ append_assoc (take i numbers) (number ∷ []) (drop (i + 1) numbers);
  live = claimed.live;
  again = λ extent. elim (none_or_there (take i numbers) number) [
    | inl none ↦ absurd (not (subst (λ u. IsFree u number) (sym claimed.usages_are) (free_of_none (take i numbers) number claimed.live.each extent none)))
    | inr there ↦ there
  ];
}
