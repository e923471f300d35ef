-- The floors of a log, as they are kept.
use Rattle.std.specs.Prelude.{List, [], ◌∷◌}
use Rattle.floors.specs.Floors.{FloorsValue, no_floors, raised_in}
use Rattle.law_image.specs.Reading.{Slot, Floor}

-- those after some slots, of a log that had these before them
abbrev pub kept_after : FloorsValue → List Slot → FloorsValue
kept_after before [] = before
kept_after before (Floor scope floor ∷ slots) = kept_after (raised_in scope floor before) slots
kept_after before (slot ∷ slots) = kept_after before slots

-- the floors that a log gives
abbrev pub kept_of : List Slot → FloorsValue
kept_of log = kept_after no_floors log
