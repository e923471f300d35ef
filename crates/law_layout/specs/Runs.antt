-- Runs, and what the archive's bytes hold.
use Rattle.std.specs.Prelude.{◌≡◌, ℕ, ◌+◌, List, [], ◌∷◌, ◌++◌, length, flat_map}
use Rattle.std.specs.List.{AllByRecursion}
use Rattle.wire.specs.Spelling.{u64_bytes}
use Rattle.wire.specs.declared.slot.Run.{Run}
use Rattle.disk.specs.Areas.{AreaState}
use Rattle.disk.specs.Parts.{HoldsPart, KeepsPart}
use Rattle.law_image.specs.Reading.{ArchiveRecord}
use Rattle.law_layout.specs.Records.{archive_bytes, IsArchiveRecord}

-- a run that the log names, with its records
pub record StoredRun : Type 0 where
  pub entry : Run
  pub records : List ArchiveRecord

-- the place of each record from the run's start
abbrev pub index_from : ℕ → List ArchiveRecord → List ℕ
index_from place [] = []
index_from place (r ∷ rs) = u64_bytes place ++ index_from (place + length (archive_bytes r)) rs

-- the records, then the index
unfoldable pub run_bytes : List ArchiveRecord → List ℕ
run_bytes records = flat_map archive_bytes records ++ index_from 0 records

-- a run has the length and the number of records that the log names, and its records are in range
pub record IsStoredRun (s : StoredRun) : Type 0 where
  pub length_is : length (run_bytes s.records) ≡ s.entry.len
  pub records_are : length s.records ≡ s.entry.records
  pub each : AllByRecursion IsArchiveRecord s.records

-- the archive's bytes hold the run
abbrev pub HoldsRun : List ℕ → StoredRun → Type 0
HoldsRun archive s = HoldsPart s.entry.start (run_bytes s.records) archive

-- whatever a stop may leave of the archive holds it
abbrev pub KeepsRun : AreaState → StoredRun → Type 0
KeepsRun a s = KeepsPart s.entry.start (run_bytes s.records) a
