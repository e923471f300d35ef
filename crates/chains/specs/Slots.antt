-- What lies in the slots of a chunk.
use Rattle.std.specs.Prelude.{◌≡◌, ◌<◌, List, [], ◌∷◌, length}
use Rattle.history.specs.Time.{IsRisingAfter}
use Rattle.history.specs.Versions.{first_time}
use Rattle.chains.specs.Writes.{Write}
use Rattle.chains.specs.declared.chunk.Slots.{Slots}
use Rattle.chains.specs.declared.chunk.Slots.TheVariants.{One, Many, Full}

-- the writes, oldest first
abbrev pub writes_at : Slots → List Write
writes_at (One shared) = shared.value ∷ []
writes_at (Many first shared) = shared.value.items
writes_at (Full first shared) = shared.value

-- when the first of them was made is what is said of it
abbrev pub SaysFirst : Slots → Type 0
SaysFirst (One shared) = Unit {0}
SaysFirst (Many first shared) = first ≡ first_time shared.value.items
SaysFirst (Full first shared) = first ≡ first_time shared.value

-- they are some, by rising times
abbrev pub AreSlots : Slots → Type 0
AreSlots s = IsRisingAfter 0 (writes_at s) × (0 < length (writes_at s)) × SaysFirst s
