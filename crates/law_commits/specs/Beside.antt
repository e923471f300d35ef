-- What of the machine memory does not say, and floors that are raised.
use Rattle.std.specs.Prelude.{ℕ, ◌≡◌, Option}
use Rattle.history.specs.Floors.{Raising, raised}
use Rattle.history.specs.Machine.{Machine, Gate, MayRaise}
use Rattle.history.specs.Steps.{floor_published}
use Rattle.law_image.specs.Values.{Value}
use Rattle.floors.specs.Floors.{FloorsValue, floor_at}
use Rattle.commits.specs.Values.{CommitsValue, with_floors}
use Rattle.commits.specs.Steps.{grouped}
use Rattle.law_commits.specs.Standing.{StandsInMemory}

-- a group that begins, a floor in the making and where the gate is are not in memory; nor is how many commits the store's group has in the machine
abbrev pub BesideStands : Type 0
BesideStands =
    (v : CommitsValue) (m : Machine Value) (size group : ℕ) (raising : Option Raising) (gate : Gate) → StandsInMemory v m
    → StandsInMemory (record v { group = size }) (record m { group = group; raising = raising; gate = gate })

-- so it is where a group begins
abbrev pub GroupStands : Type 0
GroupStands = (v : CommitsValue) (m : Machine Value) (most : ℕ) → StandsInMemory v m → StandsInMemory (grouped most v) m

-- floors that are raised stand in place of those before
abbrev pub RaiseStands : Type 0
RaiseStands =
    (v : CommitsValue) (m : Machine Value) (r : Raising) (floors : FloorsValue) → StandsInMemory v m → MayRaise m r
    → ((relation : ℕ) → floor_at floors relation ≡ raised r.scope r.floor m.floors relation)
    → StandsInMemory (with_floors v floors) (floor_published m r)
