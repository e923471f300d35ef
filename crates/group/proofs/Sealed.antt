-- Chains of bodies in extents.
use Rattle.std.proofs.Common.{◌≡◌, ℕ, suc, List, [], ◌∷◌, length, map, refl, arith, ap}
use Rattle.deltas.specs.Extents.{extent_bytes}
use Rattle.deltas.specs.Chains.{chain_of}

pub length-sealed : (numbers : List ℕ) (bodies : List (List ℕ)) → length bodies ≡ length numbers
    → length (map extent_bytes (chain_of numbers bodies)) ≡ length numbers
length-sealed [] bodies same = refl
length-sealed (n ∷ ns) [] same = absurd (omega arith)
length-sealed (n ∷ ns) (b ∷ bs) same = ap suc (length-sealed ns bs (omega arith))
