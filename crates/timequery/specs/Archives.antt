-- What a store has of its archive.
use Rattle.std.specs.Prelude.{◌≡◌, ◌==◌, ◌&&◌, ℕ, Bool, true, false, List, [], ◌∷◌}
use Rattle.floors.specs.Floors.{same_floors}
use Rattle.archive.specs.declared.run.RunEntry.{RunEntry}

-- the runs of the log, and what is kept of their bytes
pub record ArchiveValue : Type 0 where
  -- the runs of the log, in order
  pub runs : List RunEntry
  -- while an archive is made, those and its run
  pub next : List RunEntry
  -- the parts of the archive that the reader keeps: where each begins, and its bytes
  pub kept : List (ℕ × List ℕ)

-- these are the runs of the log, and nothing of the archive is read
pub record IsUnread (runs : List RunEntry) (archive : ArchiveValue) : Type 0 where
  pub runs_are : archive.runs ≡ runs
  pub next : archive.next ≡ []
  pub kept : archive.kept ≡ []

-- the run that was made is one of the log's
abbrev pub with_next_run : ArchiveValue → ArchiveValue
with_next_run archive = record archive { runs = archive.next; next = [] }

-- ---- runs of another moment

-- two runs are the same: by what their slots say, and by the mark and the floors before those
abbrev pub same_run : RunEntry → RunEntry → Bool
same_run a b =
    (a.slot.upto == b.slot.upto)
    && ((a.slot.start == b.slot.start)
    && ((a.slot.len == b.slot.len)
    && ((a.slot.records == b.slot.records) && ((a.mark == b.mark) && same_floors a.floors b.floors))))

-- the first list is a front of the second
abbrev pub is_front : List RunEntry → List RunEntry → Bool
is_front [] runs = true
is_front (run ∷ runs) [] = false
is_front (run ∷ runs) (other ∷ others) = same_run run other && is_front runs others
