-- A change of one extent leaves the others as they are. For crates above.
use Rattle.std.proofs.Common.{◌≡◌, ◌≢◌, ℕ, suc, refl, ◌-◌, ◌+◌, ◌<◌, ◌≤◌, List, [], ◌∷◌, ◌++◌, length, get_or, sym, ◌∙◌, ap, arith, inl, inr}
use Rattle.std.specs.List.{AllByRecursion}
use Rattle.std.proofs.lemmas.Bool.{cases_lt}
use Rattle.std.proofs.lemmas.List.{get_or_past, get_or-set_other}
use Rattle.std.proofs.lemmas.Grind.{get_or-set_at}
use Rattle.std.proofs.lemmas.List.Sums.{sum_by-set, sum_by-cons}
use Rattle.extents.specs.declared.usage.Usage.{Usage}
use Rattle.extents.specs.declared.usage.Usage.TheVariants.{Free, Out, Kept}
use Rattle.extents.specs.Usages.{HasUsage, IsFree, IsOut, IsKept, with_usage, with_usages, IsNoneOf, AreDistinct, AreOut, one_if_used, used_count}

-- another extent's usage
pub other_stays : (usages : List Usage) (number other : ℕ) (usage old : Usage) → 1 ≤ number → other ≢ number → HasUsage old usages other
    → HasUsage old (with_usage usages number usage) other
other_stays usages number other usage old low apart has =
    let low' = has.low in
    let places : other - 1 ≢ number - 1 = λ e. apart (omega arith) in
    record { low = has.low; high = has.high; is = get_or-set_other usages (number - 1) (other - 1) usage Kept places ∙ has.is }

-- extents of different usages are different
pub are_apart : (usages : List Usage) (a b : Usage) (m n : ℕ) → a ≢ b → HasUsage a usages m → HasUsage b usages n → m ≢ n
are_apart usages a b m n differ has_a has_b same = differ (sym has_a.is ∙ ap (λ k. get_or usages (k - 1) Kept) same ∙ has_b.is)

-- an extent that is not kept has its place in the list
within : (usages : List Usage) (place : ℕ) (usage : Usage) → usage ≢ Kept → get_or usages place Kept ≡ usage → place < length usages
within usages place usage not_kept is = elim (cases_lt place (length usages)) [
  | inl lt ↦ lt
  | inr le ↦ absurd (not_kept (sym is ∙ get_or_past usages place Kept le))
]

-- a changed extent has its new usage
pub now_has : (usages : List Usage) (number : ℕ) (usage old : Usage) → old ≢ Kept → HasUsage old usages number
    → HasUsage usage (with_usage usages number usage) number
now_has usages number usage old not_kept has =
    record {
      low = has.low;
      high = has.high;
      is = get_or-set_at usages (number - 1) (number - 1) usage Kept refl (within usages (number - 1) old not_kept has.is);
    }

pub used_stays : (usages : List Usage) (number other : ℕ) (usage old : Usage) → IsFree usages number → old ≢ Free → HasUsage old usages other
    → HasUsage old (with_usage usages number usage) other
used_stays usages number other usage old free used has =
    other_stays usages number other usage old free.low (are_apart usages old Free other number used has free) has

-- ---- lists

none_is_apart : (usages : List Usage) (numbers : List ℕ) (number : ℕ) → IsFree usages number → AllByRecursion (IsOut usages) numbers → IsNoneOf number numbers
none_is_apart usages [] number free out = tt
none_is_apart usages (n ∷ ns) number free out = (are_apart usages Out Free n number (λ e. cc) out.0 free, none_is_apart usages ns number free out.1)

each_stays : (usages : List Usage) (numbers : List ℕ) (number : ℕ) (usage : Usage) → 1 ≤ number → IsNoneOf number numbers
    → AllByRecursion (IsOut usages) numbers
    → AllByRecursion (IsOut (with_usage usages number usage)) numbers
each_stays usages [] number usage low apart out = tt
each_stays usages (n ∷ ns) number usage low apart out =
    (other_stays usages number n usage Out low apart.0 out.0, each_stays usages ns number usage low apart.1 out.1)

pub distinct-push : (numbers : List ℕ) (number : ℕ) → IsNoneOf number numbers → AreDistinct numbers → AreDistinct (numbers ++ number ∷ [])
distinct-push [] number apart distinct = (tt, tt)
distinct-push (n ∷ ns) number apart distinct = (none-push ns number n (λ e. apart.0 (sym e)) distinct.0, distinct-push ns number apart.1 distinct.1)
  where
    none-push : (ms : List ℕ) (m k : ℕ) → m ≢ k → IsNoneOf k ms → IsNoneOf k (ms ++ m ∷ [])
    none-push [] m k apart none = (apart, tt)
    none-push (x ∷ xs) m k apart none = (none.0, none-push xs m k apart none.1)

pub all-push : (P : ℕ → Type 0) (numbers : List ℕ) (number : ℕ) → AllByRecursion P numbers → P number → AllByRecursion P (numbers ++ number ∷ [])
all-push P [] number all last = (last, tt)
all-push P (n ∷ ns) number all last = (all.0, all-push P ns number all.1 last)

pub list_taken : (usages : List Usage) (numbers : List ℕ) (number : ℕ) → AreOut usages numbers → IsFree usages number
    → AreOut (with_usage usages number Out) (numbers ++ number ∷ [])
list_taken usages numbers number out free =
    let apart = none_is_apart usages numbers number free out.each in record {
      each = all-push (IsOut (with_usage usages number Out)) numbers number (each_stays usages numbers number Out free.low apart out.each)
          (now_has usages number Out Free (λ e. cc) free);
      distinct = distinct-push numbers number apart out.distinct;
    }

pub first_changed : (usages : List Usage) (numbers : List ℕ) (number : ℕ) (usage : Usage) → AreOut usages (number ∷ numbers)
    → AreOut (with_usage usages number usage) numbers
first_changed usages numbers number usage out =
    record { each = each_stays usages numbers number usage out.each.0.low out.distinct.0 out.each.1; distinct = out.distinct.1 }

pub others_stay : (usages : List Usage) (numbers : List ℕ) (usage old : Usage) (other : ℕ) → AreOut usages numbers → IsNoneOf other numbers
    → HasUsage old usages other → HasUsage old (with_usages usages numbers usage) other
others_stay usages [] usage old other out apart has = has
others_stay usages (n ∷ ns) usage old other out apart has =
    others_stay (with_usage usages n usage) ns usage old other (first_changed usages ns n usage out) apart.1
    (other_stays usages n other usage old out.each.0.low (λ e. apart.0 (sym e)) has)

pub list_kept : (usages : List Usage) (numbers : List ℕ) → AreOut usages numbers → AllByRecursion (IsKept (with_usages usages numbers Kept)) numbers
list_kept usages [] out = tt
list_kept usages (n ∷ ns) out =
    let rest = first_changed usages ns n Kept out in (
      others_stay (with_usage usages n Kept) ns Kept Kept n rest out.distinct.0 (now_has usages n Kept Out (λ e. cc) out.each.0),
      list_kept (with_usage usages n Kept) ns rest,
    )

-- ---- counts

pub one_more_used : (usages : List Usage) (number : ℕ) (usage : Usage) → usage ≢ Free → IsFree usages number → used_count (with_usage usages number usage)
    ≡ used_count usages + 1
one_more_used usages number usage used free =
    let lt = within usages (number - 1) Free (λ e. cc) free.is in
    let sums = sum_by-set one_if_used usages (number - 1) usage Kept lt in
    let was : one_if_used (get_or usages (number - 1) Kept) ≡ 0 = ap one_if_used free.is in
    let is = counts_one usage used in
    omega (arith, sums, was, is)
  where
    counts_one : (u : Usage) → u ≢ Free → one_if_used u ≡ 1
    counts_one Free used = absurd (used refl)
    counts_one Out used = refl
    counts_one Kept used = refl

pub all_used : (usages : List Usage) → ((place : ℕ) → get_or usages place Kept ≢ Free) → used_count usages ≡ length usages
all_used [] none = refl
all_used (Free ∷ us) none = absurd (none 0 refl)
all_used (Out ∷ us) none =
    let rest = all_used us (λ place. none (suc place)) in
    omega (arith, sum_by-cons one_if_used Out us, rest)
all_used (Kept ∷ us) none =
    let rest = all_used us (λ place. none (suc place)) in
    omega (arith, sum_by-cons one_if_used Kept us, rest)
