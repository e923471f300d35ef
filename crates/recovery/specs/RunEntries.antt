-- The runs of a log, each with the archive mark and the floors before its slot.
use Rattle.std.specs.Prelude.{◌≡◌, ℕ, List, [], ◌∷◌, map}
use Rattle.wire.specs.declared.slot.Run.{Run}
use Rattle.wire.specs.declared.slot.Slot.{Slot}
use Rattle.floors.specs.Floors.{FloorsValue, no_floors, raised_in}
use Rattle.law_image.specs.Reading as readings
use Rattle.archive.specs.declared.run.RunEntry.{RunEntry}
use Rattle.status.specs.Rules.{log_of, runs_of}

-- the runs, as their slots name them
abbrev pub runs_named : List RunEntry → List Run
runs_named entries = map (λ e. e.slot) entries

-- the archive mark before each archived slot of a log that stands behind this mark
abbrev pub marks_before : ℕ → List readings.Slot → List ℕ
marks_before mark [] = []
marks_before mark (readings.Archived upto ∷ log) = mark ∷ marks_before upto log
marks_before mark (slot ∷ log) = marks_before mark log

-- and the floors before each, in a log that stands behind these
abbrev pub floors_before : FloorsValue → List readings.Slot → List FloorsValue
floors_before floors [] = []
floors_before floors (readings.Archived upto ∷ log) = floors ∷ floors_before floors log
floors_before floors (readings.Floor scope floor ∷ log) = floors_before (raised_in scope floor floors) log
floors_before floors (slot ∷ log) = floors_before floors log

-- These are the runs that the slots name, in their order, each with the archive mark and the floors before its slot.
pub record AreEntriesOf (slots : List Slot) (entries : List RunEntry) : Type 0 where
  pub runs_are : runs_named entries ≡ runs_of slots
  pub marks_are : map (λ e. e.mark) entries ≡ marks_before 0 (log_of slots)
  pub floors_are : map (λ e. e.floors) entries ≡ floors_before no_floors (log_of slots)

-- each run goes on from the mark of the one before it, and the first from this one
abbrev pub AreMarkedFrom : ℕ → List RunEntry → Type 0
AreMarkedFrom mark [] = Unit {0}
AreMarkedFrom mark (entry ∷ entries) = (entry.mark ≡ mark) × AreMarkedFrom entry.slot.upto entries
