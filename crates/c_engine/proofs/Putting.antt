-- The fields of a value, put behind one another.
use Rattle.std.proofs.Common.{◌≡◌, ℕ, zero, suc, ◌<◌, List, [], ◌∷◌, ◌++◌, map, take, length, slice_set, sym, ap, ◌∙◌, refl, arith}

one_more : {X : Type 0} (now : X → List ℕ) (parts : List X) (count : ℕ) (x : X) (fields rest value : List (List ℕ)) → count < length parts → fields ≡ now x
    ∷ rest → map now (take count parts) ++ fields ≡ value
    → map now (take (suc count) (slice_set parts count x)) ++ rest ≡ value
one_more now [] count x fields rest value low is before = absurd (omega arith)
one_more now (p ∷ parts) zero x fields rest value low is before = sym is ∙ before
one_more now (p ∷ parts) (suc count) x fields rest value low is before =
    ap (λ (l : List (List ℕ)). now p ∷ l) (one_more now parts count x fields rest (map now (take count parts) ++ fields) (omega arith) is refl) ∙ before

-- the next field is put behind those so far
pub put_behind : {X : Type 0} (now : X → List ℕ) (parts : List X) (count next : ℕ) (x : X) (fields rest value : List (List ℕ)) → next ≡ suc count
    → count < length parts → fields ≡ now x ∷ rest
    → map now (take count parts) ++ fields ≡ value → map now (take next (slice_set parts count x)) ++ rest ≡ value
put_behind now parts count next x fields rest value is_next low is before =
    ap (λ (n : ℕ). map now (take n (slice_set parts count x)) ++ rest) is_next ∙ one_more now parts count x fields rest value low is before
