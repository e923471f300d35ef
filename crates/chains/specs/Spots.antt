-- Where values of some time lie, and what records show there.
use Rattle.std.specs.Prelude.{ℕ, ◌<◌, List, [], ◌∷◌, ◌++◌, Option, None, Some, option_map, option_to_list}
use Rattle.history.specs.Time.{value_at, IsRisingAfter}
use Rattle.chains.specs.Writes.{Value}
use Rattle.chains.specs.declared.spot.SpotInside.{SpotInside}
use Rattle.chains.specs.declared.spot.SpotInside.TheVariants.{Nothing, Full}
use Rattle.chains.specs.declared.spot.SpotInside.TheVariants as found

-- the value, if there is one at the time
abbrev pub value_there : ℕ → SpotInside → Option Value
value_there time Nothing = None
value_there time (found.Value value) = Some value.now
value_there time (Full full place) = value_at full.now time

-- the writes of a full chunk rise by their times, and the search begins within it
abbrev pub IsSpot : SpotInside → Type 0
IsSpot (Full full place) = IsRisingAfter 0 full.now × (place < 32)
IsSpot inside = Unit {0}

-- a record with its value, if it has one
abbrev pub shown_of : ℕ → Option Value → List (ℕ × Value)
shown_of number value = option_to_list (option_map (λ v. (number, v)) value)

-- those of the records that have a value, with their values
abbrev pub shown_there : List (ℕ × Option Value) → List (ℕ × Value)
shown_there [] = []
shown_there (s ∷ ss) = shown_of s.0 s.1 ++ shown_there ss
