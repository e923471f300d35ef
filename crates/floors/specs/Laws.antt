-- What holds of floors.
use Rattle.std.specs.Prelude.{ℕ, ◌≡◌, Option}
use Rattle.history.specs.Floors.{raised}
use Rattle.floors.specs.Floors.{FloorsValue, floor_at, raised_in}

-- a floor that is raised is that of the relations that it covers, and no other changes
abbrev pub RaisedIs : Type 0
RaisedIs =
    (floors : FloorsValue) (scope : Option ℕ) (floor relation : ℕ) → floor_at (raised_in scope floor floors) relation
    ≡ raised scope floor (floor_at floors) relation
