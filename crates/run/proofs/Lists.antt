-- Reads of a list that was written or grew.
use Rattle.std.proofs.Common.{◌≡◌, ◌≢◌, ◌⊎◌, inl, inr, ℕ, zero, suc, ◌<◌, ◌≤◌, List, [], ◌∷◌, ◌++◌, length, Some, None, refl, ap, arith}
use Rattle.std.specs.Prelude.{slice_get, slice_set}
use Rattle.run.specs.declared.held.Held.{Held}
use Rattle.run.specs.Places.{Place, Free, place_at}

-- ---- what the store's callers hold

pub get-set : (xs : List Held) (i j : ℕ) (y z : Held) → slice_get (slice_set xs i y) j ≡ Some z → ((j ≡ i) × (z ≡ y)) ⊎ ((j ≢ i) × (slice_get xs j ≡ Some z))
get-set [] i j y z at = absurd (cc)
get-set (x ∷ xs) zero zero y z at = inl (refl, cc)
get-set (x ∷ xs) zero (suc j) y z at = inr ((λ e. absurd (omega arith)), at)
get-set (x ∷ xs) (suc i) zero y z at = inr ((λ e. absurd (omega arith)), at)
get-set (x ∷ xs) (suc i) (suc j) y z at = elim (get-set xs i j y z at) [
  | inl here ↦ inl (ap suc here.0, here.1)
  | inr there ↦ inr ((λ e. there.0 (omega arith)), there.1)
]

pub get-push : (xs : List Held) (j : ℕ) (y z : Held) → slice_get (xs ++ y ∷ []) j ≡ Some z → ((j ≡ length xs) × (z ≡ y)) ⊎ (slice_get xs j ≡ Some z)
get-push [] zero y z at = inl (refl, cc)
get-push [] (suc j) y z at = absurd (cc)
get-push (x ∷ xs) zero y z at = inr at
get-push (x ∷ xs) (suc j) y z at = elim (get-push xs j y z at) [ inl here ↦ inl (omega (arith, here.0), here.1) | inr there ↦ inr there ]

pub get-within : (xs : List Held) (i : ℕ) (x : Held) → slice_get xs i ≡ Some x → i < length xs
get-within [] i x at = absurd (cc)
get-within (y ∷ ys) zero x at = omega arith
get-within (y ∷ ys) (suc i) x at = omega (arith, get-within ys i x at)

pub get-past : (xs : List Held) (i : ℕ) → slice_get xs i ≡ None → length xs ≤ i
get-past [] i at = omega arith
get-past (y ∷ ys) zero at = absurd (cc)
get-past (y ∷ ys) (suc i) at = omega (arith, get-past ys i at)

pub get-set_same : (xs : List Held) (i : ℕ) (x y : Held) → slice_get xs i ≡ Some x → slice_get (slice_set xs i y) i ≡ Some y
get-set_same [] i x y at = absurd (cc)
get-set_same (z ∷ xs) zero x y at = refl
get-set_same (z ∷ xs) (suc i) x y at = get-set_same xs i x y at

pub set-set : (xs : List Held) (i : ℕ) (x y : Held) → slice_set (slice_set xs i x) i y ≡ slice_set xs i y
set-set [] i x y = refl
set-set (z ∷ xs) zero x y = refl
set-set (z ∷ xs) (suc i) x y = ap (λ (l : List Held). z ∷ l) (set-set xs i x y)

pub set-get : (xs : List Held) (i : ℕ) (x : Held) → slice_get xs i ≡ Some x → slice_set xs i x ≡ xs
set-get [] i x at = refl
set-get (z ∷ xs) zero x at = let same : x ≡ z = cc in ap (λ (y : Held). y ∷ xs) same
set-get (z ∷ xs) (suc i) x at = ap (λ (l : List Held). z ∷ l) (set-get xs i x at)

pub held-length-set : (xs : List Held) (i : ℕ) (y : Held) → length (slice_set xs i y) ≡ length xs
held-length-set [] i y = refl
held-length-set (x ∷ xs) zero y = refl
held-length-set (x ∷ xs) (suc i) y = ap suc (held-length-set xs i y)

pub held-length-push : (xs : List Held) (y : Held) → length (xs ++ y ∷ []) ≡ suc (length xs)
held-length-push [] y = refl
held-length-push (x ∷ xs) y = ap suc (held-length-push xs y)

-- ---- places

pub length-set : (ps : List Place) (i : ℕ) (p : Place) → length (slice_set ps i p) ≡ length ps
length-set [] i p = refl
length-set (q ∷ ps) zero p = refl
length-set (q ∷ ps) (suc i) p = ap suc (length-set ps i p)

pub length-push : (ps : List Place) (p : Place) → length (ps ++ p ∷ []) ≡ suc (length ps)
length-push [] p = refl
length-push (q ∷ ps) p = ap suc (length-push ps p)

pub place-set_same : (ps : List Place) (i : ℕ) (p : Place) → i < length ps → place_at (slice_set ps i p) i ≡ p
place-set_same [] i p low = absurd (omega arith)
place-set_same (q ∷ ps) zero p low = refl
place-set_same (q ∷ ps) (suc i) p low = place-set_same ps i p (omega arith)

pub place-set_other : (ps : List Place) (i j : ℕ) (p : Place) → j ≢ i → place_at (slice_set ps i p) j ≡ place_at ps j
place-set_other [] i j p apart = refl
place-set_other (q ∷ ps) zero zero p apart = absurd (apart refl)
place-set_other (q ∷ ps) zero (suc j) p apart = refl
place-set_other (q ∷ ps) (suc i) zero p apart = refl
place-set_other (q ∷ ps) (suc i) (suc j) p apart = place-set_other ps i j p (λ same. apart (ap suc same))

pub place-push_old : (ps : List Place) (j : ℕ) (p : Place) → j < length ps → place_at (ps ++ p ∷ []) j ≡ place_at ps j
place-push_old [] j p low = absurd (omega arith)
place-push_old (q ∷ ps) zero p low = refl
place-push_old (q ∷ ps) (suc j) p low = place-push_old ps j p (omega arith)

pub place-push_new : (ps : List Place) (p : Place) → place_at (ps ++ p ∷ []) (length ps) ≡ p
place-push_new [] p = refl
place-push_new (q ∷ ps) p = place-push_new ps p

pub place-past : (ps : List Place) (i : ℕ) → length ps ≤ i → place_at ps i ≡ Free
place-past [] i past = refl
place-past (q ∷ ps) zero past = absurd (omega arith)
place-past (q ∷ ps) (suc i) past = place-past ps i (omega arith)
