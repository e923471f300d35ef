-- A run by the places of its records, as a search sees it.
use Rattle.std.specs.Prelude.{◌≡◌, ◌⊎◌, ℕ, ◌^◌, ◌<◌, ◌≤◌, List, [], ◌∷◌, length, slice_get, Some, slice_range}
use Rattle.floors.specs.Floors.{floor_at}
use Rattle.law_image.specs.Reading.{ArchiveRecord}
use Rattle.archive.specs.declared.run.RunEntry.{RunEntry}
use Rattle.wire.specs.Values.{IsValue}
use Rattle.archive.specs.Runs.{run_bytes, run_end}

-- the ranges and the rules that the record meets by itself
pub record IsLaid (run : RunEntry) (r : ArchiveRecord) : Type 0 where
  pub relation : r.key.relation < 2 ^ 16
  pub number : r.key.record < 2 ^ 64
  pub lasts : r.version.from < r.version.to
  pub after_mark : run.mark < r.version.to
  pub after_floor : floor_at run.floors r.key.relation < r.version.to
  pub by_upto : r.version.to ≤ run.slot.upto
  pub value : IsValue r.version.value

-- the second has a greater key, or the same key and begins when the first ends or later
abbrev pub IsBefore : ArchiveRecord → ArchiveRecord → Type 0
IsBefore a b =
    (a.key.relation < b.key.relation)
    ⊎ ((a.key.relation ≡ b.key.relation)
    × ((a.key.record < b.key.record) ⊎ ((a.key.record ≡ b.key.record) × (a.version.to ≤ b.version.from))))

-- each is before the next
abbrev pub AreInOrder : List ArchiveRecord → Type 0
AreInOrder [] = Unit {0}
AreInOrder (r ∷ []) = Unit {0}
AreInOrder (r ∷ s ∷ rest) = IsBefore r s × AreInOrder (s ∷ rest)

-- the area holds the run, of these records
pub record IsLaidRun (area : List ℕ) (run : RunEntry) (records : List ArchiveRecord) : Type 0 where
  pub within : run_end run ≤ length area
  pub short : run_end run < 2 ^ 63
  pub spelled : slice_range area run.slot.start (run_end run) ≡ run_bytes records
  pub count : run.slot.records ≡ length records
  pub upto : run.slot.upto < 2 ^ 63
  pub each : (n : ℕ) (r : ArchiveRecord) → slice_get records n ≡ Some r → IsLaid run r
  pub in_order : AreInOrder records
