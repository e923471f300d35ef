-- The digits of a byte.
use Rattle.std.specs.Prelude.{ℕ, ◌/◌, ◌%◌, List, [], ◌∷◌, slice_index}
use Rattle.hex.specs.Hex.{lower_digits}

-- its two lower-case digits, the high one first
abbrev pub pair_text : ℕ → List ℕ
pair_text byte = slice_index lower_digits (byte / 16) ∷ slice_index lower_digits (byte % 16) ∷ []
