-- The extents of live chains stay kept.
use Rattle.std.proofs.Common.{◌≡◌, ℕ, List, [], ◌∷◌, ◌++◌, map, sym, subst}
use Rattle.std.specs.List.{AllByRecursion}
use Rattle.extents.specs.declared.usage.Usage.{Usage}
use Rattle.extents.specs.declared.usage.Usage.TheVariants.{Out, Kept}
use Rattle.extents.specs.Usages.{IsKept, with_usage, with_usages, AreOut}
use Rattle.extents.proofs.Frames.{other_stays, are_apart, now_has, first_changed, used_stays}
use Rattle.deltas.specs.Extents.{Extent}
use Rattle.group.specs.Taking.{AreLeastFree}

-- where others are taken
pub kept-taken : (us : List Usage) (ns : List ℕ) (n : ℕ) → AreLeastFree us ns → IsKept us n → IsKept (with_usages us ns Out) n
kept-taken us [] n least kept = kept
kept-taken us (m ∷ ms) n least kept = kept-taken (with_usage us m Out) ms n least.1 (used_stays us m n Out Kept (least.0).free (λ same. cc) kept)

-- and where others are published
kept-stays : (us : List Usage) (ns : List ℕ) (n : ℕ) → AreOut us ns → IsKept us n → IsKept (with_usages us ns Kept) n
kept-stays us [] n out kept = kept
kept-stays us (m ∷ ms) n out kept =
    kept-stays (with_usage us m Kept) ms n (first_changed us ms m Kept out)
    (other_stays us m n Kept Kept (out.each.0).low (are_apart us Kept Out n m (λ same. cc) kept out.each.0) kept)

published-kept : (us : List Usage) (ns : List ℕ) → AreOut us ns → AllByRecursion (IsKept (with_usages us ns Kept)) ns
published-kept us [] out = tt
published-kept us (m ∷ ms) out =
    let next =
    first_changed us ms m Kept out in (
      kept-stays (with_usage us m Kept) ms m next (now_has us m Kept Out (λ same. cc) out.each.0),
      published-kept (with_usage us m Kept) ms next,
    )

abbrev pub AllKept : List Usage → List Extent → Type 0
AllKept us es = AllByRecursion (λ (e : Extent). IsKept us e.number) es

pub all-taken : (us : List Usage) (ns : List ℕ) (es : List Extent) → AreLeastFree us ns → AllKept us es → AllKept (with_usages us ns Out) es
all-taken us ns [] least kept = tt
all-taken us ns (e ∷ es) least kept = (kept-taken us ns e.number least kept.0, all-taken us ns es least kept.1)

all-stay : (us : List Usage) (ns : List ℕ) (es : List Extent) → AreOut us ns → AllKept us es → AllKept (with_usages us ns Kept) es
all-stay us ns [] out kept = tt
all-stay us ns (e ∷ es) out kept = (kept-stays us ns e.number out kept.0, all-stay us ns es out kept.1)

by-numbers : (us : List Usage) (es : List Extent) → AllByRecursion (IsKept us) (map (λ (e : Extent). e.number) es) → AllKept us es
by-numbers us [] kept = tt
by-numbers us (e ∷ es) kept = (kept.0, by-numbers us es kept.1)

both : (us : List Usage) (xs ys : List Extent) → AllKept us xs → AllKept us ys → AllKept us (xs ++ ys)
both us [] ys a b = b
both us (x ∷ xs) ys a b = (a.0, both us xs ys a.1 b)

-- the group's extents are kept, beside those that were
pub all-published : (us : List Usage) (ns : List ℕ) (xs ys : List Extent) → AreOut us ns → map (λ (e : Extent). e.number) ys ≡ ns → AllKept us xs
    → AllKept (with_usages us ns Kept) (xs ++ ys)
all-published us ns xs ys out named kept =
    both (with_usages us ns Kept) xs ys (all-stay us ns xs out kept)
    (by-numbers (with_usages us ns Kept) ys (subst (AllByRecursion (IsKept (with_usages us ns Kept))) (sym named) (published-kept us ns out)))
