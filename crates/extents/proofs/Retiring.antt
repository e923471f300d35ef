-- Extents freed one after the other.
use Rattle.std.proofs.Common.{◌≡◌, ◌≢◌, ℕ, suc, ◌+◌, ◌-◌, ◌<◌, ◌≤◌, true, false, nat_le, List, get_or, refl, sym, subst, ◌∙◌, ap, arith, inl, inr}
use Rattle.std.proofs.lemmas.Bool.{cases_eq}
use Rattle.std.proofs.lemmas.Bool.Decides.{nat_tests}
use Rattle.extents.specs.declared.usage.Usage.{Usage}
use Rattle.extents.specs.declared.usage.Usage.TheVariants.{Free, Out, Kept}
use Rattle.extents.specs.Usages.{HasUsage, IsKept, with_usage}
use Rattle.extents.specs.Times.{time_of, retired, retired_by}

-- what the retiring of one extent answers for
pub record Retires (old : List Usage) (number : ℕ) (new : List Usage) : Type 0 where
  pub low : 1 ≤ number
  pub high : number ≤ 65536
  pub freed : IsKept old number → new ≡ with_usage old number Free
  pub not_kept : (IsKept old number → ⊥) → new ≡ old
  pub others : (usage : Usage) (other : ℕ) → other ≢ number → HasUsage usage old other → HasUsage usage new other

retired-is : (old new : List Usage) (number : ℕ) → Retires old number new → new ≡ retired old number
retired-is old new number r = by-usage (get_or old (number - 1) Kept) refl
  where
    by-usage : (u : Usage) → get_or old (number - 1) Kept ≡ u → new ≡ retired old number
    by-usage Free is = rw is (r.not_kept (λ k. let no : Kept ≡ Free = sym k.is ∙ is in cc))
    by-usage Out is = rw is (r.not_kept (λ k. let no : Kept ≡ Out = sym k.is ∙ is in cc))
    by-usage Kept is = rw is (r.freed (record { low = r.low; high = r.high; is = is }))

pub one-retired : (mark : ℕ) (times : List ℕ) (start old new : List Usage) (place : ℕ) → time_of times (place + 1) ≤ mark → Retires old (place + 1) new → old
    ≡ retired_by mark times start place → new ≡ retired_by mark times start (place + 1)
one-retired mark times start old new place early r is =
    let next : suc place ≡ place + 1 = omega arith in
    subst (λ (n : ℕ). time_of times n ≤ mark → Retires old n new → new ≡ retired_by mark times start n) next (λ early' r'.
    let test : nat_le (time_of times (suc place)) mark ≡ true = grind (arith, nat_tests) in
    rw test (retired-is old new (suc place) r' ∙ ap (λ (us : List Usage). retired us (suc place)) is)) early r

pub none-retired : (mark : ℕ) (times : List ℕ) (start old : List Usage) (place : ℕ) → mark < time_of times (place + 1) → old ≡ retired_by mark times start place
    → old ≡ retired_by mark times start (place + 1)
none-retired mark times start old place late is =
    let next : suc place ≡ place + 1 = omega arith in
    subst (λ (n : ℕ). mark < time_of times n → old ≡ retired_by mark times start n) next (λ late'.
    let test : nat_le (time_of times (suc place)) mark ≡ false = grind (arith, nat_tests) in
    rw test is) late

pub later-kept : (mark : ℕ) (times : List ℕ) (old new : List Usage) (number other : ℕ) → time_of times number ≤ mark → Retires old number new
    → mark < time_of times other → IsKept old other → IsKept new other
later-kept mark times old new number other early r late has =
    r.others Kept other (λ same. let at : time_of times other ≡ time_of times number = ap (time_of times) same in absurd (omega (arith, at, early, late))) has

pub others-stay : (old new : List Usage) (number other : ℕ) (usage : Usage) → Retires old number new → usage ≢ Kept → HasUsage usage old other
    → HasUsage usage new other
others-stay old new number other usage r not has = elim (cases_eq other number) [
  | inl same ↦ subst (λ (us : List Usage). HasUsage usage us other) (sym (r.not_kept (λ k. not (sym has.is ∙ ap (λ n. get_or old (n - 1) Kept) same ∙ k.is))))
      has
  | inr apart ↦ r.others usage other apart has
]
