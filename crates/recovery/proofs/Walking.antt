-- A walk that is under way.
use Rattle.std.proofs.Common.{◌≡◌, ℕ, suc, ◌+◌, ◌-◌, ◌<◌, List, [], ◌∷◌, ◌++◌, map, refl, sym, ap, subst, ◌∙◌, arith, append_assoc}
use Rattle.std.proofs.lemmas.List.{map-append}
use Rattle.extents.specs.declared.usage.Usage.{Usage}
use Rattle.extents.specs.declared.usage.Usage.TheVariants.{Kept}
use Rattle.extents.specs.Usages.{IsFree, with_usage}
use Rattle.deltas.specs.Reading.{next_of}
use Rattle.recovery.specs.Walk.{extent_at, numbers_at, IsThere, claimed, AreClaimable}

pub claimed-append : (usages : List Usage) (xs ys : List ℕ) → claimed usages (xs ++ ys) ≡ claimed (claimed usages xs) ys
claimed-append usages [] ys = refl
claimed-append usages (x ∷ xs) ys = claimed-append (with_usage usages x Kept) xs ys

pub claimable_join : (len : ℕ) (usages : List Usage) (xs ys : List ℕ) → AreClaimable len usages xs → AreClaimable len (claimed usages xs) ys
    → AreClaimable len usages (xs ++ ys)
claimable_join len usages [] ys a b = b
claimable_join len usages (x ∷ xs) ys a b = (a.0, a.1, claimable_join len (with_usage usages x Kept) xs ys a.2 b)

pub claimable_behind : (len : ℕ) (usages : List Usage) (xs ys : List ℕ) → AreClaimable len usages (xs ++ ys) → AreClaimable len (claimed usages xs) ys
claimable_behind len usages [] ys a = a
claimable_behind len usages (x ∷ xs) ys a = claimable_behind len (with_usage usages x Kept) xs ys a.2

-- some extents of a walk were read, and the walk goes on at this one
pub record IsWalking (heap : List ℕ) (len : ℕ) (old : List Usage) (first count : ℕ) (done next : ℕ) (numbers : List ℕ) (images : List (List ℕ))
    (new : List Usage) : Type 0 where
  pub numbers_are : numbers ++ numbers_at heap next (count - done) ≡ numbers_at heap first count
  pub images_are : images ≡ map (extent_at heap) numbers
  pub claimable : AreClaimable len old numbers
  pub kept : new ≡ claimed old numbers

module _ (heap : List ℕ) (len : ℕ) (old : List Usage) (first count done next : ℕ) (numbers : List ℕ) (images : List (List ℕ)) (new : List Usage)
    (walking : IsWalking heap len old first count done next numbers images new) (more : done < count) where
  one_more : numbers_at heap next (count - done) ≡ next ∷ numbers_at heap (next_of (extent_at heap next)) (count - (done + 1))
  one_more = let left : count - done ≡ suc (count - (done + 1)) = omega arith in ap (numbers_at heap next) left

  all_are : numbers ++ (next ∷ numbers_at heap (next_of (extent_at heap next)) (count - (done + 1))) ≡ numbers_at heap first count
  all_are = ap (λ l. numbers ++ l) (sym one_more) ∙ walking.numbers_are

  -- the next extent is not in the heap, or not free
  pub walk_fails : ¬ (IsThere len next × IsFree new next) → ¬ AreClaimable len old (numbers_at heap first count)
  walk_fails none all =
      let behind : AreClaimable len (claimed old numbers) (next ∷ numbers_at heap (next_of (extent_at heap next)) (count - (done + 1))) =
      claimable_behind len old numbers (next
      ∷ numbers_at heap (next_of (extent_at heap next)) (count - (done + 1))) (subst (AreClaimable len old) (sym all_are) all) in
      none (behind.0, subst (λ (u : List Usage). IsFree u next) (sym walking.kept) behind.1)

  -- it is, and was read
  pub walk_goes_on : (image : List ℕ) → IsThere len next → IsFree new next → image ≡ extent_at heap next
      → IsWalking heap len old first count (done + 1) (next_of image) (numbers ++ next ∷ []) (images ++ image ∷ []) (with_usage new next Kept)
  walk_goes_on image there free is = record {
    numbers_are =
        append_assoc numbers (next ∷ []) (numbers_at heap (next_of image) (count - (done + 1)))
        ∙ ap (λ (b : List ℕ). numbers ++ (next ∷ numbers_at heap (next_of b) (count - (done + 1)))) is
        ∙ all_are;
    images_are =
        ap (λ (l : List (List ℕ)). l ++ image ∷ []) walking.images_are
        ∙ ap (λ (b : List ℕ). map (extent_at heap) numbers ++ b ∷ []) is
        ∙ sym (map-append (extent_at heap) numbers (next ∷ []));
    claimable = claimable_join len old numbers (next ∷ []) walking.claimable (there, subst (λ (u : List Usage). IsFree u next) walking.kept free, tt);
    kept = ap (λ (u : List Usage). with_usage u next Kept) walking.kept ∙ sym (claimed-append old numbers (next ∷ []));
  }
