-- The values of an image, and which are in range.
use Rattle.std.specs.Prelude.{ℕ, ◌<◌, ◌≤◌, List, length, All}
use Rattle.std.specs.List.{AllByRecursion}

-- the fields of a record, each a list of bytes
abbrev pub Value : Type 0
Value = List (List ℕ)

-- 0 to 255 bytes
pub record IsField (field : List ℕ) : Type 0 where
  pub short : length field < 256
  pub are_bytes : All (λ b. b < 256) field

-- 1 to 16 fields
pub record IsValue (value : Value) : Type 0 where
  pub some : 0 < length value
  pub few : length value ≤ 16
  pub fields : AllByRecursion IsField value
