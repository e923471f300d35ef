-- The records of a relation that have a value at a time.
use Rattle.std.specs.Prelude.{ℕ, ◌≡◌, ◌==◌, ◌↔◌, List, [], ◌∷◌, ◌++◌, map, Contains, Some, option_map, option_to_list, if◌then◌else◌}
use Rattle.std.specs.List.Sorted.{IsStrictlyIncreasing}
use Rattle.history.specs.Key.{key_of}
use Rattle.history.specs.Time.{value_at}
use Rattle.chains.specs.Writes.{Value}
use Rattle.chains.specs.KeyWrites.{KeyWrites, writes_of}

-- a chain's record and its value, if it has one at the time
abbrev pub shown_value : ℕ → KeyWrites → List (ℕ × Value)
shown_value time c = option_to_list (option_map (λ value. (c.key.record, value)) (value_at c.writes time))

-- a chain's record and its value, if it is of the relation and has one at the time
abbrev pub shown : ℕ → ℕ → KeyWrites → List (ℕ × Value)
shown relation time c =
    if c.key.relation == relation then option_to_list (option_map (λ value. (c.key.record, value)) (value_at c.writes time)) else []

-- the records of the relation that have a value at the time, with their values, in the order of the keys
abbrev pub scanned : ℕ → ℕ → List KeyWrites → List (ℕ × Value)
scanned relation time [] = []
scanned relation time (c ∷ cs) = shown relation time c ++ scanned relation time cs

-- the records of a relation that have a value at a time, each once and rising, with their values
pub record IsScanOf (m : List KeyWrites) (relation time : ℕ) (found : List (ℕ × Value)) : Type 0 where
  pub rising : IsStrictlyIncreasing (map (λ (pair : ℕ × Value). pair.0) found)
  pub each : (number : ℕ) (value : Value) → Contains found (number, value) ↔ (value_at (writes_of m (key_of relation number)) time ≡ Some value)
