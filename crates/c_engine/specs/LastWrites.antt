-- What was written last to each area since its last sync.
use Rattle.std.specs.Prelude.{ℕ, ◌+◌, List, [], ◌∷◌, slice_range, Option, None, Some, option_map}
use Rattle.disk.specs.Areas.{AreaState, Areas}
use Rattle.disk.specs.declared.area.Area.{Area}
use Rattle.disk.specs.declared.area.Area.TheVariants.{Status, Heap, Archive}
use Rattle.c_engine.specs.declared.last_write.LastWrite.{LastWrite}
use Rattle.c_engine.specs.declared.last_write.LastWrites.{LastWrites}

-- the newest range of an area, and what stands there
abbrev pub newest_in : List ℕ → List (ℕ × ℕ) → Option (ℕ × List ℕ)
newest_in bytes [] = None
newest_in bytes (range ∷ loose) = Some (range.0, slice_range bytes range.0 (range.0 + range.1))

-- the place and the bytes of the last write of an area, none where it was not written since its last sync
abbrev pub last_write : AreaState → Option (ℕ × List ℕ)
last_write a = newest_in a.bytes a.loose

-- of each area a place and bytes, or none
pub record Noted : Type 0 where
  pub status : Option (ℕ × List ℕ)
  pub heap : Option (ℕ × List ℕ)
  pub archive : Option (ℕ × List ℕ)

-- that of this area
abbrev pub noted_in : Noted → Area → Option (ℕ × List ℕ)
noted_in writes Status = writes.status
noted_in writes Heap = writes.heap
noted_in writes Archive = writes.archive

-- another one of this area
abbrev pub with_write : Area → Option (ℕ × List ℕ) → Noted → Noted
with_write Status write writes = record writes { status = write }
with_write Heap write writes = record writes { heap = write }
with_write Archive write writes = record writes { archive = write }

-- what is noted as the last write of an area
abbrev pub noted_write : LastWrite → Option (ℕ × List ℕ)
noted_write w = option_map (λ at. (at, w.bytes.items)) w.at

-- what is noted as the last write of each
abbrev pub writes_of : LastWrites → Noted
writes_of w = record { status = noted_write w.status; heap = noted_write w.heap; archive = noted_write w.archive }

-- the last write of each area
abbrev pub last_writes : Areas → Noted
last_writes areas = record { status = last_write areas.status; heap = last_write areas.heap; archive = last_write areas.archive }
