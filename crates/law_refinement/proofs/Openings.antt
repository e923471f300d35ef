-- The snapshots of open transactions.
use Rattle.std.proofs.Common.{◌≡◌, ℕ, zero, suc, ◌<◌, nat_lt, true, false, List, [], ◌∷◌, ◌++◌, length, slice_get, slice_set, Option, None, Some, refl, arith}
use Rattle.std.proofs.Common.{ap, subst, inl, inr}
use Rattle.std.specs.Prelude.{IsPermutation}
use Rattle.std.proofs.lemmas.Bool.{cases_lt}
use Rattle.std.proofs.lemmas.Bool.Decides.{nat_tests}
use Rattle.std.proofs.lemmas.List.Sorted.{IsPermutation-refl, IsPermutation-sym, IsPermutation-to_front, IsPermutation-cons, IsPermutation-middle}
use Rattle.std.proofs.lemmas.List.Sorted.{IsPermutation-trans}
use Rattle.snapshot.specs.OpenTable.{joined, snapshot_of, with_opened, with_closed}
use Rattle.law_refinement.specs.Standing.{snapshots_of}

-- two in front change places
front-swap : (a b : ℕ) (xs : List ℕ) → IsPermutation (a ∷ b ∷ xs) (b ∷ a ∷ xs)
front-swap a b xs = IsPermutation-middle (a ∷ []) b xs

set_some : (places : List (Option ℕ)) (n s : ℕ) → n < length places → joined (slice_get places n) ≡ None
    → IsPermutation (s ∷ snapshots_of places) (snapshots_of (slice_set places n (Some s)))
set_some [] n s low none = absurd (omega arith)
set_some (None ∷ ps) zero s low none = IsPermutation-refl (s ∷ snapshots_of ps)
set_some (Some q ∷ ps) zero s low none = absurd cc
set_some (None ∷ ps) (suc n) s low none = set_some ps n s (omega arith) none
set_some (Some q ∷ ps) (suc n) s low none =
    IsPermutation-trans (s ∷ q ∷ snapshots_of ps) (q ∷ s ∷ snapshots_of ps) (q ∷ snapshots_of (slice_set ps n (Some s))) (front-swap s q (snapshots_of ps))
    (IsPermutation-cons q (s ∷ snapshots_of ps) (snapshots_of (slice_set ps n (Some s))) (set_some ps n s (omega arith) none))

snapshots-push : (places : List (Option ℕ)) (s : ℕ) → snapshots_of (places ++ Some s ∷ []) ≡ snapshots_of places ++ s ∷ []
snapshots-push [] s = refl
snapshots-push (None ∷ ps) s = snapshots-push ps s
snapshots-push (Some q ∷ ps) s = ap (λ (xs : List ℕ). q ∷ xs) (snapshots-push ps s)

pub opened_one : (places : List (Option ℕ)) (n s : ℕ) → snapshot_of n places ≡ None
    → IsPermutation (s ∷ snapshots_of places) (snapshots_of (with_opened places n s))
opened_one places n s none = elim (cases_lt n (length places)) [
  | inl low ↦ let test : nat_lt n (length places) ≡ true = grind (arith, nat_tests) in rw test (set_some places n s low none)
  | inr past ↦
      let test : nat_lt n (length places) ≡ false = grind (arith, nat_tests) in
      rw (test, snapshots-push places s) (IsPermutation-sym (snapshots_of places ++ s ∷ []) (s
      ∷ snapshots_of places) (IsPermutation-to_front (snapshots_of places) s))
]

pub closed_one : (places : List (Option ℕ)) (n s : ℕ) → snapshot_of n places ≡ Some s
    → IsPermutation (snapshots_of places) (s ∷ snapshots_of (with_closed places n))
closed_one [] n s is = absurd cc
closed_one (None ∷ ps) zero s is = absurd cc
closed_one (Some q ∷ ps) zero s is = let same : q ≡ s =
    cc in subst (λ (z : ℕ). IsPermutation (q ∷ snapshots_of ps) (z ∷ snapshots_of ps)) same (IsPermutation-refl (q ∷ snapshots_of ps))
closed_one (None ∷ ps) (suc n) s is = closed_one ps n s is
closed_one (Some q ∷ ps) (suc n) s is =
    IsPermutation-trans (q ∷ snapshots_of ps) (q ∷ s ∷ snapshots_of (with_closed ps n)) (s ∷ q
    ∷ snapshots_of (with_closed ps n)) (IsPermutation-cons q (snapshots_of ps) (s ∷ snapshots_of (with_closed ps n)) (closed_one ps n s is))
    (front-swap q s (snapshots_of (with_closed ps n)))
