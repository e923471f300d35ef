-- Extents that are kept one after another, and which are then free.
use Rattle.std.proofs.Common.{◌≡◌, ◌≢◌, ℕ, ◌-◌, ◌≤◌, List, [], ◌∷◌, length, get_or, replicate, refl, sym, ap, ◌∙◌, arith, inl, inr}
use Rattle.std.specs.List.{AllByRecursion}
use Rattle.std.proofs.lemmas.Bool.{cases_lt, cases_eq}
use Rattle.std.proofs.lemmas.List.{get_or_past, get_or-replicate, length-set}
use Rattle.std.proofs.lemmas.Grind.{get_or-set_at}
use Rattle.extents.specs.declared.usage.Usage.{Usage}
use Rattle.extents.specs.declared.usage.Usage.TheVariants.{Free, Kept}
use Rattle.extents.specs.Usages.{IsFree, IsKept, with_usage}
use Rattle.extents.proofs.Frames.{other_stays, are_apart}
use Rattle.law_layout.specs.Extents.{Extent, AreDistinct}
use Rattle.law_layout.proofs.Lists.{AreCross}
use Rattle.recovery.specs.Walk.{IsThere, claimed, AreClaimable}
use Rattle.recovery.specs.HeapReads.{numbers_in}

pub free_all : (n : ℕ) → 1 ≤ n → n ≤ 65536 → IsFree (replicate 65536 Free) n
free_all n low high = record { low = low; high = high; is = get_or-replicate 65536 (n - 1) Free Kept (omega arith) }

-- ---- kept

now_kept : (usages : List Usage) (n : ℕ) → 1 ≤ n → n ≤ 65536 → IsKept (with_usage usages n Kept) n
now_kept usages n low high = record {
  low = low;
  high = high;
  is = elim (cases_lt (n - 1) (length usages)) [
    | inl lt ↦ get_or-set_at usages (n - 1) (n - 1) Kept Kept refl lt
    | inr le ↦ get_or_past (with_usage usages n Kept) (n - 1) Kept (let same : length (with_usage usages n Kept)
        ≡ length usages = length-set usages (n - 1) Kept in omega arith)
  ];
}

still_kept : (usages : List Usage) (m n : ℕ) → 1 ≤ m → m ≤ 65536 → IsKept usages n → IsKept (with_usage usages m Kept) n
still_kept usages m n low high kept = elim (cases_eq n m) [
  | inl same ↦ record { low = kept.low; high = kept.high; is = ap (λ k. get_or (with_usage usages m Kept) (k - 1) Kept) same ∙ (now_kept usages m low high).is }
  | inr other ↦ other_stays usages m n Kept Kept low other kept
]

abbrev pub IsNumbered : Extent → Type 0
IsNumbered e = (1 ≤ e.number) × (e.number ≤ 65536)

kept_behind : (usages : List Usage) (es : List Extent) (n : ℕ) → AllByRecursion IsNumbered es → IsKept usages n → IsKept (claimed usages (numbers_in es)) n
kept_behind usages [] n numbered kept = kept
kept_behind usages (e ∷ es) n numbered kept =
    kept_behind (with_usage usages e.number Kept) es n numbered.1 (still_kept usages e.number n (numbered.0).0 (numbered.0).1 kept)

-- all that were kept are
pub kept_all : (usages : List Usage) (es : List Extent) → AllByRecursion IsNumbered es
    → AllByRecursion (λ e. IsKept (claimed usages (numbers_in es)) e.number) es
kept_all usages [] numbered = tt
kept_all usages (e ∷ es) numbered = (
  kept_behind (with_usage usages e.number Kept) es e.number numbered.1 (now_kept usages e.number (numbered.0).0 (numbered.0).1),
  kept_all (with_usage usages e.number Kept) es numbered.1,
)

-- the others are free as before
pub still_free : (usages : List Usage) (es : List Extent) (n : ℕ) → AllByRecursion IsNumbered es → AllByRecursion (λ e. n ≢ e.number) es → IsFree usages n
    → IsFree (claimed usages (numbers_in es)) n
still_free usages [] n numbered apart free = free
still_free usages (e ∷ es) n numbered apart free =
    still_free (with_usage usages e.number Kept) es n numbered.1 apart.1 (other_stays usages e.number n Kept Free (numbered.0).0 apart.0 free)

-- ---- claimable, and distinct

none_is_kept : (len : ℕ) (usages : List Usage) (es : List Extent) (n : ℕ) → IsKept usages n → AreClaimable len usages (numbers_in es)
    → AllByRecursion (λ e. n ≢ e.number) es
none_is_kept len usages [] n kept can = tt
none_is_kept len usages (e ∷ es) n kept can = (
  are_apart usages Kept Free n e.number (λ same. cc) kept can.1,
  none_is_kept len (with_usage usages e.number Kept) es n (still_kept usages e.number n (can.0).low (can.0).high kept) can.2,
)

pub claimable_distinct : (len : ℕ) (usages : List Usage) (es : List Extent) → AreClaimable len usages (numbers_in es) → AreDistinct es
claimable_distinct len usages [] can = tt
claimable_distinct len usages (e ∷ es) can = (
  none_is_kept len (with_usage usages e.number Kept) es e.number (now_kept usages e.number (can.0).low (can.0).high) can.2,
  claimable_distinct len (with_usage usages e.number Kept) es can.2,
)

pub claimable_cross : (len : ℕ) (usages : List Usage) (taken es : List Extent) → AllByRecursion (λ e. IsKept usages e.number) taken
    → AreClaimable len usages (numbers_in es) → AreCross taken es
claimable_cross len usages [] es kept can = tt
claimable_cross len usages (t ∷ taken) es kept can = (none_is_kept len usages es t.number kept.0 can, claimable_cross len usages taken es kept.1 can)

free_beside : (usages : List Usage) (e : Extent) (es : List Extent) → 1 ≤ e.number → AllByRecursion (λ f. e.number ≢ f.number) es
    → AllByRecursion (λ f. IsFree usages f.number) es
    → AllByRecursion (λ f. IsFree (with_usage usages e.number Kept) f.number) es
free_beside usages e [] low apart free = tt
free_beside usages e (f ∷ es) low apart free =
    (other_stays usages e.number f.number Kept Free low (λ same. apart.0 (sym same)) free.0, free_beside usages e es low apart.1 free.1)

pub distinct_claimable : (len : ℕ) (usages : List Usage) (es : List Extent) → AllByRecursion (λ e. IsThere len e.number) es
    → AllByRecursion (λ e. IsFree usages e.number) es → AreDistinct es → AreClaimable len usages (numbers_in es)
distinct_claimable len usages [] there free distinct = tt
distinct_claimable len usages (e ∷ es) there free distinct = (
  there.0,
  free.0,
  distinct_claimable len (with_usage usages e.number Kept) es there.1 (free_beside usages e es (there.0).low distinct.0 free.1) distinct.1,
)

-- extents that are none of those that were kept are free
pub cross_free : (taken es : List Extent) → AllByRecursion IsNumbered taken → AllByRecursion IsNumbered es → AreCross es taken
    → AllByRecursion (λ e. IsFree (claimed (replicate 65536 Free) (numbers_in taken)) e.number) es
cross_free taken [] numbered each cross = tt
cross_free taken (e ∷ es) numbered each cross = (
  still_free (replicate 65536 Free) taken e.number numbered cross.0 (free_all e.number (each.0).0 (each.0).1),
  cross_free taken es numbered each.1 cross.1,
)
