-- A piece of the bytes of a roll.
use Rattle.std.proofs.Common.{◌≡◌, ℕ, ◌+◌, ◌-◌, min, List, length, take, drop, ap, sym, ◌∙◌, arith, length-drop}
use Rattle.std.specs.List.{slice_range}
use Rattle.std.proofs.lemmas.List.{take_min, drop_min, drop-drop}

-- what is written
pub piece-is : (bytes : List ℕ) (written n : ℕ) → n ≡ min (length bytes - written) 8192
    → slice_range bytes written (written + n) ≡ take 8192 (drop written bytes)
piece-is bytes written n is =
    let len : written + n - written ≡ min 8192 (length (drop written bytes)) = omega (arith, is, length-drop written bytes) in
    ap (λ (k : ℕ). take k (drop written bytes)) len ∙ take_min 8192 (drop written bytes)

-- and what is left
pub piece-rest : (bytes : List ℕ) (written n : ℕ) → n ≡ min (length bytes - written) 8192 → drop (written + n) bytes ≡ drop 8192 (drop written bytes)
piece-rest bytes written n is =
    let len : n ≡ min 8192 (length (drop written bytes)) = omega (arith, is, length-drop written bytes) in
    sym (drop-drop n written bytes) ∙ ap (λ (k : ℕ). drop k (drop written bytes)) len ∙ drop_min 8192 (drop written bytes)
