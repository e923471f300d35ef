-- Values, and their one spelling.
use Rattle.std.specs.Prelude.{ℕ, ◌<◌, ◌≤◌, List, ◌∷◌, length}
pub use Rattle.law_image.specs.Values.{IsValue}
use Rattle.wire.specs.Fields.{fields_bytes, AreShort}

-- how many fields, and then each as its length and its bytes
abbrev pub value_bytes : List (List ℕ) → List ℕ
value_bytes value = length value ∷ fields_bytes value

-- fields that a value can have, of which a program can tell
pub record HasSizes (fields : List (List ℕ)) : Type 0 where
  pub some : 0 < length fields
  pub few : length fields ≤ 16
  pub short : AreShort fields
