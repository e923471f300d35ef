-- What a transaction sees of a relation: the records of its snapshot, with its own writes over them.
use Rattle.std.specs.Prelude.{ℕ, ◌==◌, nat_lt, List, [], ◌∷◌, ◌++◌, option_map, option_to_list, if◌then◌else◌}
use Rattle.history.specs.declared.key.KeyWrite.{KeyWrite}

-- those with lesser records at the front
abbrev pub lesser : {V : Type 0} → ℕ → List (ℕ × V) → List (ℕ × V)
lesser number [] = []
lesser number (p ∷ ps) = if nat_lt p.0 number then p ∷ lesser number ps else []

-- what follows them
abbrev pub from_record : {V : Type 0} → ℕ → List (ℕ × V) → List (ℕ × V)
from_record number [] = []
from_record number (p ∷ ps) = if nat_lt p.0 number then from_record number ps else p ∷ ps

-- without the first, where it is of this record
abbrev pub without_first : {V : Type 0} → ℕ → List (ℕ × V) → List (ℕ × V)
without_first number [] = []
without_first number (p ∷ ps) = if p.0 == number then ps else p ∷ ps

-- a write's own value, if it has one
abbrev pub pair_of : {V : Type 0} → KeyWrite V → List (ℕ × V)
pair_of w = option_to_list (option_map (λ value. (w.key.record, value)) w.write)

-- the pairs of a relation, rising, with these writes over them
abbrev pub overlaid : {V : Type 0} → ℕ → List (ℕ × V) → List (KeyWrite V) → List (ℕ × V)
overlaid relation pairs [] = pairs
overlaid relation pairs (w ∷ ws) =
    if w.key.relation == relation then lesser w.key.record pairs
    ++ (pair_of w ++ overlaid relation (without_first w.key.record (from_record w.key.record pairs)) ws)
    else overlaid relation pairs ws
