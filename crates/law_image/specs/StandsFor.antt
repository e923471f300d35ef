-- What it means that an image stands for a history with its floors.
use Rattle.std.specs.Prelude.{ℕ, ◌≡◌, ◌<◌, ◌≤◌, ◌+◌, ◌*◌, ◌%◌, ◌⊎◌, ◌↔◌, ◌++◌, MatchBool, List, [], ◌∷◌, map, filter, length, nat_lt, Contains}
use Rattle.std.specs.List.{AllByRecursion}
use Rattle.std.specs.List.Sorted.{IsStrictlySortedBy}
use Rattle.std.specs.declared.cmp.Ordering.TheVariants.{Less}
use Rattle.history.specs.declared.key.Key.{Key}
use Rattle.history.specs.declared.time.Version.{Version}
use Rattle.history.specs.Key.{key_cmp}
use Rattle.history.specs.Histories.{Commit, History, IsVersion, IsHistory, commits_after}
use Rattle.history.specs.Homes.{AreAtHome, kept_of}
use Rattle.law_image.specs.Values.{Value, IsValue}
use Rattle.law_image.specs.Reading.{Head, Slot, Archived, Member, OldRecord, ArchiveRecord, Reading, slot_count}
use Rattle.law_image.specs.Log.{heads_of, archive_mark, reclaim_mark, floor_of, KeepsLogRules, KeepsHeapRules, is_in_heap}
use Rattle.law_image.specs.Facts.{heap_commits, heap_versions, archived_versions, values_at_mark, AreStored}

-- the archive mark of an image, A
abbrev pub archived_upto : Reading → ℕ
archived_upto reading = archive_mark reading.log

-- the reclaim mark of an image, R
abbrev pub reclaimed_upto : Reading → ℕ
reclaimed_upto reading = reclaim_mark reading.log

-- the floor of a key's relation in an image
abbrev pub floor_at : Reading → Key → ℕ
floor_at reading key = floor_of reading.log key.relation

-- what is kept of a key, from both homes and oldest first
abbrev pub kept_versions : Reading → ℕ → Key → List (Version Value)
kept_versions reading floor key = kept_of floor (archived_upto reading) (heap_versions reading key) (archived_versions reading key)

-- the records of a member: 1 to 1,024 in the order of their keys
pub record IsChain (m : Member) : Type 0 where
  pub rising : IsStrictlySortedBy key_cmp (map (λ r. r.key) m.records)
  pub some : 0 < length m.records
  pub few : length m.records ≤ 1024

-- an anchor is at least of time 1 and at most of the mark
abbrev pub IsAnchorUpto : ℕ → OldRecord → Type 0
IsAnchorUpto mark old = (0 < old.from) × (old.from ≤ mark)

-- a record of a run ends after the archive mark and the floor before it, and by the run's own mark
pub record IsArchived (mark : ℕ) (floors : ℕ → ℕ) (upto : ℕ) (r : ArchiveRecord) : Type 0 where
  pub lasts : r.version.from < r.version.to
  pub after_mark : mark < r.version.to
  pub after_floor : floors r.key.relation < r.version.to
  pub by_upto : r.version.to ≤ upto

-- the next record has a greater key, or the same key and begins when this one ends or later
abbrev pub IsBefore : ArchiveRecord → ArchiveRecord → Type 0
IsBefore a b = (key_cmp a.key b.key ≡ Less) ⊎ ((a.key ≡ b.key) × (a.version.to ≤ b.version.from))

-- each of these records of a run is before the next one
abbrev pub AreInOrder : List ArchiveRecord → Type 0
AreInOrder [] = Unit {0}
AreInOrder (r ∷ []) = Unit {0}
AreInOrder (r ∷ s ∷ rest) = IsBefore r s × AreInOrder (s ∷ rest)

-- the records of one archived slot
pub record IsRun (mark : ℕ) (floors : ℕ → ℕ) (upto : ℕ) (run : List ArchiveRecord) : Type 0 where
  pub each : AllByRecursion (IsArchived mark floors upto) run
  pub in_order : AreInOrder run

-- there is one run for each archived slot, by the mark before it and by these floors of the slots before it
abbrev pub AreRunsBy : (List Slot → ℕ → ℕ) → List Slot → List Slot → List (List ArchiveRecord) → Type 0
AreRunsBy floors before [] [] = Unit {0}
AreRunsBy floors before [] (run ∷ runs) = ⊥
AreRunsBy floors before (Archived upto ∷ slots) [] = ⊥
AreRunsBy floors before (Archived upto ∷ slots) (run ∷ runs) =
    IsRun (archive_mark before) (floors before) upto run × AreRunsBy floors (before ++ Archived upto ∷ []) slots runs
AreRunsBy floors before (slot ∷ slots) runs = AreRunsBy floors (before ++ slot ∷ []) slots runs

-- there is one run for each archived slot, by the mark and the floors before it
abbrev pub AreRunsOf : List Slot → List Slot → List (List ArchiveRecord) → Type 0
AreRunsOf before slots runs = AreRunsBy floor_of before slots runs

-- In a log in the heap a run may have records that ended by a floor: it may have been made of others that are older than the floor.
abbrev pub no_floors : List Slot → ℕ → ℕ
no_floors before relation = 0

-- the numbers of a header with these pieces open
pub record IsHeader (profile slots pieces : ℕ) : Type 0 where
  pub lowest : 0 < profile
  pub highest : profile ≤ 3
  pub some : 16 ≤ slots
  -- the first profile has no pieces
  pub whole : profile ≡ 1 → pieces ≡ 0
  pub total : slots + 256 * pieces ≤ 65536

-- the number of extents of a heap that has the log: its halves, quarters and sixteenths are whole
pub record IsHeapOf (extents pieces : ℕ) : Type 0 where
  pub some : 64 ≤ extents
  pub most : extents ≤ 1048576
  pub whole : extents % 16 ≡ 0
  pub no_pieces : pieces ≡ 0

-- the header and the slots of an image of the first three profiles keep their rules, and its runs are those that the slots name
pub record IsSlotLog (reading : Reading) : Type 0 where
  pub header : IsHeader reading.profile reading.slots reading.pieces
  pub log : KeepsLogRules reading.profile reading.log
  pub fits : length reading.log ≤ slot_count reading
  pub runs : AreRunsOf [] reading.log reading.runs

-- so it is of an image whose log lies in the heap
pub record IsHeapLog (reading : Reading) : Type 0 where
  pub header : IsHeapOf reading.slots reading.pieces
  pub log : KeepsHeapRules reading.log
  pub runs : AreRunsBy no_floors [] reading.log reading.runs

-- The image reads: its header and its log keep the rules of its profile, and its chains and runs are those that the log names.
pub record Reads (reading : Reading) : Type 0 where
  pub form : MatchBool (is_in_heap reading.profile) (IsHeapLog reading) (IsSlotLog reading)
  pub members : map (λ m. m.head) reading.members ≡ filter (λ head. nat_lt (reclaim_mark reading.log) head.time) (heads_of reading.log)
  pub chains : AllByRecursion IsChain reading.members
  pub stored : AreStored (values_at_mark reading) reading.members
  pub anchors : IsStrictlySortedBy key_cmp (map (λ old. old.key) reading.anchors)
  pub anchor_times : AllByRecursion (IsAnchorUpto (reclaim_mark reading.log)) reading.anchors

-- the time and label of a commit
abbrev pub head_of : Commit Value → Head
head_of c = record { time = c.time; label = c.label }

-- What an image says of a history and its floors, one for each relation, apart from where it keeps the versions.
pub record OpensAs (reading : Reading) (h : History Value) (floors : ℕ → ℕ) : Type 0 where
  pub reads : Reads reading
  pub floors_given : (relation : ℕ) → floor_of reading.log relation ≡ floors relation
  pub history : IsHistory IsValue h
  -- the log's commits are those of the history
  pub commits : heads_of reading.log ≡ map head_of h
  -- and those later than R have its write sets as their facts
  pub write_sets : heap_commits reading ≡ commits_after (reclaimed_upto reading) h

-- The image stands for this history with these floors.
pub record StandsFor (reading : Reading) (h : History Value) (floors : ℕ → ℕ) : Type 0 where
  pub opens : OpensAs reading h floors
  pub homes : AreAtHome h floors (archived_upto reading) (reclaimed_upto reading) (heap_versions reading) (archived_versions reading)

-- ---- the same, told of sets

-- an image keeps a version of a key: in the heap or in a run, and it ends after the floor
abbrev pub IsKept : Reading → Key → Version Value → Type 0
IsKept reading key v = (Contains (heap_versions reading key) v ⊎ Contains (archived_versions reading key) v) × (floor_at reading key < v.to)

-- An image keeps the versions of the history that end after the floor. Of these the archive has those that end by A, and the heap those that end after R.
pub record KeepsAsSets (reading : Reading) (h : History Value) (floors : ℕ → ℕ) : Type 0 where
  pub marks : reclaimed_upto reading ≤ archived_upto reading
  pub kept : (key : Key) (v : Version Value) → IsKept reading key v ↔ IsVersion h key v × (floors key.relation < v.to)
  pub heap : (key : Key) (v : Version Value) → IsVersion h key v → floors key.relation < v.to → Contains (heap_versions reading key) v
      ↔ (reclaimed_upto reading < v.to)
  pub archive : (key : Key) (v : Version Value) → IsVersion h key v → floors key.relation < v.to → Contains (archived_versions reading key) v
      ↔ (v.to ≤ archived_upto reading)

-- the image stands for this history with these floors, by sets: the law SetsAreLists says that it is the same
pub record StandsForBySets (reading : Reading) (h : History Value) (floors : ℕ → ℕ) : Type 0 where
  pub opens : OpensAs reading h floors
  pub homes : KeepsAsSets reading h floors
