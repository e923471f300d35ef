-- Bytes cut into pieces.
use Rattle.std.proofs.Common.{◌≡◌, ℕ, zero, suc, ◌+◌, ◌*◌, ◌<◌, ◌≤◌, List, [], ◌∷◌, ◌++◌, length, take, drop, Some, refl, ap, ◌∙◌, arith, length-take}
use Rattle.std.proofs.Common.{length-drop}
use Rattle.std.specs.List.{concat, slice_get}
use Rattle.std.proofs.lemmas.List.{take-append-drop}
use Rattle.archive.specs.Pieces.{pieces_in, pieces}

-- as many steps as there are bytes are enough
enough : (n m : ℕ) (bytes : List ℕ) → length bytes ≤ n → length bytes ≤ m → pieces_in n bytes ≡ pieces_in m bytes
enough zero zero bytes a b = refl
enough zero (suc m) [] a b = refl
enough zero (suc m) (x ∷ xs) a b = absurd (omega arith)
enough (suc n) zero [] a b = refl
enough (suc n) zero (x ∷ xs) a b = absurd (omega arith)
enough (suc n) (suc m) [] a b = refl
enough (suc n) (suc m) (x ∷ xs) a b =
    ap (λ (ps : List (List ℕ)). take 8192 (x ∷ xs) ∷ ps)
    (enough n m (drop 8192 (x ∷ xs)) (omega (arith, length-drop 8192 (x ∷ xs))) (omega (arith, length-drop 8192 (x ∷ xs))))

pub pieces_none : pieces [] ≡ []
unfolding pieces
pieces_none = refl

pub pieces_next : (bytes : List ℕ) → 0 < length bytes → pieces bytes ≡ take 8192 bytes ∷ pieces (drop 8192 bytes)
unfolding pieces
pieces_next [] some = absurd (omega arith)
pieces_next (x ∷ xs) some =
    ap (λ (ps : List (List ℕ)). take 8192 (x ∷ xs) ∷ ps)
    (enough (length xs) (length (drop 8192 (x ∷ xs))) (drop 8192 (x ∷ xs)) (omega (arith, length-drop 8192 (x ∷ xs))) (omega arith))

joined_in : (n : ℕ) (bytes : List ℕ) → length bytes ≤ n → concat (pieces_in n bytes) ≡ bytes
joined_in zero [] fits = refl
joined_in zero (x ∷ xs) fits = absurd (omega arith)
joined_in (suc n) [] fits = refl
joined_in (suc n) (x ∷ xs) fits =
    ap (λ (ys : List ℕ). take 8192 (x ∷ xs) ++ ys) (joined_in n (drop 8192 (x ∷ xs)) (omega (arith, length-drop 8192 (x ∷ xs))))
    ∙ take-append-drop 8192 (x ∷ xs)

pub pieces_joined : (bytes : List ℕ) → concat (pieces bytes) ≡ bytes
unfolding pieces
pieces_joined bytes = joined_in (length bytes) bytes (omega arith)

full_in : (fuel : ℕ) (bytes piece : List ℕ) (n : ℕ) → slice_get (pieces_in fuel bytes) n ≡ Some piece → 8192 * (n + 1) ≤ length bytes → length piece ≡ 8192
full_in zero bytes piece n at long = cc
full_in (suc fuel) [] piece n at long = cc
full_in (suc fuel) (x ∷ xs) piece zero at long =
    let same : take 8192 (x ∷ xs) ≡ piece = cc in
    omega (arith, ap length same, length-take 8192 (x ∷ xs))
full_in (suc fuel) (x ∷ xs) piece (suc n) at long = full_in fuel (drop 8192 (x ∷ xs)) piece n at (omega (arith, length-drop 8192 (x ∷ xs)))

pub pieces_full : (bytes piece : List ℕ) (n : ℕ) → slice_get (pieces bytes) n ≡ Some piece → 8192 * (n + 1) ≤ length bytes → length piece ≡ 8192
unfolding pieces
pieces_full bytes piece n at long = full_in (length bytes) bytes piece n at long
