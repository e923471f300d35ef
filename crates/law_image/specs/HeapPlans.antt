-- What a group and the jobs make of an image whose log lies in the heap.
use Rattle.std.specs.Prelude.{ℕ, ◌≡◌, ◌≤◌, max, zero, suc, nat_lt, List, [], ◌∷◌, ◌++◌, take, drop, length, filter, flat_map}
use Rattle.history.specs.declared.key.Key.{Key}
use Rattle.history.specs.Versions.{ends_after, ends_by}
use Rattle.law_image.specs.Reading.{Slot, Commits, Archived, Reclaimed, Floor, OldRecord, ArchiveRecord, Reading}
use Rattle.law_image.specs.Log.{heads_of, archive_mark, reclaim_mark, floor_of, KeepsHeapRules}
use Rattle.law_image.specs.Facts.{heap_versions, run_versions}
use Rattle.law_image.specs.StandsFor.{archived_upto, no_floors, IsRun}

-- an image of a new store of this many extents
abbrev pub empty_heap : ℕ → Reading
empty_heap extents = record { profile = 4; slots = extents; pieces = 0; log = []; members = []; anchors = []; runs = [] }

-- ---- an archive

-- the marks of the runs that a log has, in order
abbrev pub marks_of : List Slot → List ℕ
marks_of [] = []
marks_of (Archived upto ∷ slots) = upto ∷ marks_of slots
marks_of (slot ∷ slots) = marks_of slots

-- the log without the runs behind the first so many
abbrev pub first_runs : ℕ → List Slot → List Slot
first_runs kept [] = []
first_runs zero (Archived upto ∷ slots) = first_runs zero slots
first_runs (suc kept) (Archived upto ∷ slots) = Archived upto ∷ first_runs kept slots
first_runs kept (slot ∷ slots) = slot ∷ first_runs kept slots

-- The plan of an archive whose run takes the place of the runs behind the first so many: their records and those of the versions with max (A, F) < to ≤ upto,
-- in order, without what ended by its relation's floor.
pub record IsMergePlan (reading : Reading) (kept upto : ℕ) (run : List ArchiveRecord) : Type 0 where
  pub within : kept ≤ length reading.runs
  pub each : (key : Key) → run_versions key run
      ≡ filter (ends_after (floor_of reading.log key.relation)) (flat_map (run_versions key) (drop kept reading.runs))
      ++ filter (ends_by upto) (filter (ends_after (max (archived_upto reading) (floor_of reading.log key.relation))) (heap_versions reading key))
  pub is_run : IsRun (archive_mark (first_runs kept reading.log)) (no_floors []) upto run

-- the image with the archive's entry and its run
abbrev pub with_merged : Reading → ℕ → ℕ → List ArchiveRecord → Reading
with_merged reading kept upto run = record reading { log = first_runs kept reading.log ++ Archived upto ∷ []; runs = take kept reading.runs ++ run ∷ [] }

-- ---- a reclaim

-- A base stands in the place of a front of the log: the log then tells of the same commits, runs and floors, and of this reclaim mark.
pub record IsBased (mark : ℕ) (log after : List Slot) : Type 0 where
  pub heads : heads_of after ≡ heads_of log
  pub marks : marks_of after ≡ marks_of log
  pub reclaimed : reclaim_mark after ≡ mark
  pub floors : (relation : ℕ) → floor_of after relation ≡ floor_of log relation
  pub rules : KeepsHeapRules after

-- the image with a base that names these anchors; the chains of the commits up to the archive mark are given up
abbrev pub with_base : Reading → List OldRecord → List Slot → Reading
with_base reading olds after =
    record reading { log = after; members = filter (λ m. nat_lt (archived_upto reading) m.head.time) reading.members; anchors = olds }
