-- Fields and their one spelling.
use Rattle.std.specs.Prelude.{◌≡◌, ℕ, zero, suc, ◌≤◌, List, [], ◌∷◌, length, take, drop}
use Rattle.std.specs.List.{flat_map, AllByRecursion}
pub use Rattle.law_image.specs.Values.{IsField}

-- a field is its length and its bytes
abbrev pub field_bytes : List ℕ → List ℕ
field_bytes field = length field ∷ field

-- the bytes of these fields, one after another
abbrev pub fields_bytes : List (List ℕ) → List ℕ
fields_bytes fields = flat_map field_bytes fields

-- reading that many fields: whether they are there, which they are, and what follows them
abbrev pub HasFields : ℕ → List ℕ → Type 0
HasFields zero bytes = Unit {0}
HasFields (suc n) [] = ⊥
HasFields (suc n) (len ∷ bytes) = (len ≤ length bytes) × HasFields n (drop len bytes)

-- that many fields from the front of the bytes
abbrev pub fields_at : ℕ → List ℕ → List (List ℕ)
fields_at zero bytes = []
fields_at (suc n) [] = []
fields_at (suc n) (len ∷ bytes) = take len bytes ∷ fields_at n (drop len bytes)

-- the bytes behind that many fields
abbrev pub rest_at : ℕ → List ℕ → List ℕ
rest_at zero bytes = bytes
rest_at (suc n) [] = []
rest_at (suc n) (len ∷ bytes) = rest_at n (drop len bytes)

-- each of these is a field
abbrev pub AreAllFields : List (List ℕ) → Type 0
AreAllFields fields = AllByRecursion IsField fields

-- of at most 255 bytes each
abbrev pub AreShort : List (List ℕ) → Type 0
AreShort fields = AllByRecursion (λ (field : List ℕ). length field ≤ 255) fields

-- the bytes are just that many fields, at most 16 of at most 255 bytes
pub record AreFields (count : ℕ) (spelled : List ℕ) : Type 0 where
  pub has : HasFields count spelled
  pub all : rest_at count spelled ≡ []
  pub few : count ≤ 16
  pub short : length spelled ≤ 4096
  pub each : AreAllFields (fields_at count spelled)
