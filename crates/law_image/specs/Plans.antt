-- What the jobs and a group add to an image: one slot each, and what it names.
use Rattle.std.specs.Prelude.{ℕ, ◌≡◌, ◌<◌, ◌≤◌, ◌+◌, length, nat_lt, max, false, MatchBool, if◌then◌else◌, List, [], ◌∷◌, ◌++◌, map, filter}
use Rattle.std.specs.List.{AllByRecursion}
use Rattle.std.specs.List.Sorted.{IsStrictlySortedBy}
use Rattle.history.specs.declared.key.Key.{Key}
use Rattle.history.specs.Key.{key_cmp}
use Rattle.history.specs.declared.key.KeyWrite.{KeyWrite}
use Rattle.history.specs.Histories.{Commit, History, MayAllFollow}
use Rattle.history.specs.Queries.{values_after}
use Rattle.history.specs.Versions.{ends_after, ends_by, stands_at, as_write}
use Rattle.law_image.specs.Values.{Value, IsValue}
use Rattle.law_image.specs.Reading.{HeapRecord, Member, OldRecord, ArchiveRecord, Reading, Commits, Archived, Reclaimed, Floor, slot_count}
use Rattle.law_image.specs.Log.{floor_of, is_in_heap}
use Rattle.law_image.specs.Facts.{commits_from, stored, AreStored, values_now, heap_versions, old_writes, run_versions}
use Rattle.law_image.specs.StandsFor.{head_of, archived_upto, IsChain, IsRun, IsAnchorUpto}
use Rattle.std.specs.Prelude.{Option}

-- an image with no slot open
abbrev pub empty_reading : ℕ → ℕ → ℕ → Reading
empty_reading profile slots pieces = record { profile = profile; slots = slots; pieces = pieces; log = []; members = []; anchors = []; runs = [] }

-- there is room for one more slot; a log in the heap has no slots
abbrev pub HasRoom : Reading → Type 0
HasRoom reading = MatchBool (is_in_heap reading.profile) (Unit {0}) (length reading.log < slot_count reading)

-- the log is one of slots
abbrev pub HasSlots : Reading → Type 0
HasSlots reading = is_in_heap reading.profile ≡ false

-- how many commits a group has at the most
abbrev pub most_members : ℕ → ℕ
most_members profile = if is_in_heap profile then 1024 else 16

-- the members of a group are these commits, which may follow the history
pub record IsGroupOf (reading : Reading) (h next : History Value) (group : List Member) : Type 0 where
  pub may : MayAllFollow IsValue h next
  pub facts : commits_from (values_now reading) group ≡ next
  pub some : 0 < length group
  pub few : length group ≤ most_members reading.profile
  pub chains : AllByRecursion IsChain group
  pub stored : AreStored (values_now reading) group

-- the image with a group's slot
abbrev pub with_group : Reading → List Member → Reading
with_group reading group = record reading { log = reading.log ++ Commits (map (λ m. m.head) group) ∷ []; members = reading.members ++ group }

-- The plan of an archive: the versions with max (A, F) < to ≤ upto, in order.
pub record IsArchivePlan (reading : Reading) (upto : ℕ) (run : List ArchiveRecord) : Type 0 where
  pub each : (key : Key) → run_versions key run
      ≡ filter (ends_by upto) (filter (ends_after (max (archived_upto reading) (floor_of reading.log key.relation))) (heap_versions reading key))
  pub is_run : IsRun (archived_upto reading) (floor_of reading.log) upto run

-- the image with an archive's slot and its run
abbrev pub with_run : Reading → ℕ → List ArchiveRecord → Reading
with_run reading upto run = record reading { log = reading.log ++ Archived upto ∷ []; runs = reading.runs ++ run ∷ [] }

-- The plan of a reclaim: an old record for each version with from ≤ A < to, in the order of the keys.
pub record IsReclaimPlan (reading : Reading) (olds : List OldRecord) : Type 0 where
  pub each : (key : Key) → old_writes olds key ≡ map as_write (filter (stands_at (archived_upto reading)) (heap_versions reading key))
  pub rising : IsStrictlySortedBy key_cmp (map (λ old. old.key) olds)
  pub in_range : AllByRecursion (IsAnchorUpto (archived_upto reading)) olds

-- the image after a reclaim, which gives up the chains up to A
abbrev pub with_anchors : Reading → List OldRecord → Reading
with_anchors reading olds =
    record reading {
      log = reading.log ++ Reclaimed (archived_upto reading) ∷ [];
      members = filter (λ m. nat_lt (archived_upto reading) m.head.time) reading.members;
      anchors = olds;
    }

-- the image with a floor's slot
abbrev pub with_floor : Reading → Option ℕ → ℕ → Reading
with_floor reading scope floor = record reading { log = reading.log ++ Floor scope floor ∷ [] }

-- the image with one more piece of slots
abbrev pub with_piece : Reading → Reading
with_piece reading = record reading { pieces = reading.pieces + 1 }

-- a commit as the member that stores it, over the values before it
abbrev pub stored_record : (Key → Option Value) → KeyWrite Value → HeapRecord
stored_record before w = record { key = w.key; content = stored (before w.key) w.write }

-- the member that stores a commit, with a record for each of its writes
abbrev pub stored_member : (Key → Option Value) → Commit Value → Member
stored_member before c = record { head = head_of c; records = map (stored_record before) c.writes }

-- commits as members, each over the values that those before it leave
abbrev pub stored_members : (Key → Option Value) → History Value → List Member
stored_members before [] = []
stored_members before (c ∷ cs) = stored_member before c ∷ stored_members (values_after before c) cs
