-- What a write leaves of each byte.
use Rattle.std.proofs.Common.{◌≡◌, ℕ, ◌+◌, ◌-◌, ◌<◌, ◌≤◌, List, ◌++◌, length, take, drop, replicate, refl, ap, ◌∙◌, inl, inr, arith}
use Rattle.std.specs.Prelude.{slice_index}
use Rattle.std.proofs.lemmas.List.{length-append, length-take, length-replicate, get_or-take, get_or-drop, get_or_append_left, get_or-append_right}
use Rattle.disk.specs.Areas.{IsApart, overlaid}

length-front : (file : List ℕ) (at : ℕ) → length (take at (file ++ replicate (at - length file) 0)) ≡ at
length-front file at = simp (length-take, length-append, length-replicate) (omega arith)

overlaid-below : (file : List ℕ) (at : ℕ) (bytes : List ℕ) (i : ℕ) → i < length file → i < at → slice_index (overlaid file at bytes) i ≡ slice_index file i
overlaid-below file at bytes i inside below =
    get_or_append_left (take at (file ++ replicate (at - length file) 0)) (bytes
    ++ drop (at + length bytes) file) 0 i (let e = length-front file at in omega arith)
    ∙ get_or-take at _ i 0 below
    ∙ get_or_append_left file _ 0 i inside

-- behind what was written
pub overlaid-above : (file : List ℕ) (at : ℕ) (bytes : List ℕ) (i : ℕ) → at + length bytes ≤ i → slice_index (overlaid file at bytes) i ≡ slice_index file i
overlaid-above file at bytes i above =
    get_or-append_right _ _ at i 0 (length-front file at) (omega arith)
    ∙ get_or-append_right bytes _ (length bytes) (i - at) 0 refl (omega arith)
    ∙ get_or-drop (at + length bytes) file (i - at - length bytes) 0
    ∙ ap (λ k. slice_index file k) (omega arith)

-- beside it
pub overlaid-elsewhere : (file : List ℕ) (at : ℕ) (bytes : List ℕ) (i : ℕ) → i < length file → IsApart i (i + 1) (at, length bytes)
    → slice_index (overlaid file at bytes) i ≡ slice_index file i
overlaid-elsewhere file at bytes i inside (inl before) = overlaid-below file at bytes i inside (omega arith)
overlaid-elsewhere file at bytes i inside (inr after) = overlaid-above file at bytes i after

-- and in it
pub overlaid-within : (file : List ℕ) (at : ℕ) (bytes : List ℕ) (i : ℕ) → at ≤ i → i < at + length bytes → slice_index (overlaid file at bytes) i
    ≡ slice_index bytes (i - at)
overlaid-within file at bytes i low high =
    get_or-append_right (take at (file ++ replicate (at - length file) 0)) (bytes ++ drop (at + length bytes) file) at i 0 (length-front file at) low
    ∙ get_or_append_left bytes (drop (at + length bytes) file) 0 (i - at) (omega arith)
