-- How the bytes of an image spell its reading: which slots, extents and runs.
use Rattle.std.specs.Prelude.{◌≡◌, ℕ, nat_lt, List, [], ◌∷◌, ◌++◌, map, filter, flat_map}
use Rattle.std.specs.List.{AllByRecursion}
use Rattle.disk.specs.Areas.{Image}
use Rattle.wire.specs.declared.slot.Member.{Member as Entry}
use Rattle.wire.specs.declared.slot.Anchors.{Anchors}
use Rattle.wire.specs.declared.slot.Body.{Body}
use Rattle.wire.specs.declared.slot.Body.TheVariants.{Commit, Archived, Reclaimed, Floor}
use Rattle.wire.specs.declared.slot.Slot.{Slot}
use Rattle.status.specs.Log.{IsLog}
use Rattle.history.specs.Histories.{History}
use Rattle.law_image.specs.Values.{Value}
use Rattle.law_image.specs.Reading as readings
use Rattle.law_image.specs.Log.{reclaim_mark}
use Rattle.law_image.specs.StandsFor.{StandsFor}
use Rattle.law_layout.specs.Records.{record_bytes, old_bytes, IsRecord, IsOldRecord}
use Rattle.law_layout.specs.Extents.{Extent, IsChain, HoldsExtent, AreDistinct}
use Rattle.law_layout.specs.Runs.{StoredRun, IsStoredRun, HoldsRun}
use Rattle.status.specs.declared.header.Header.{Header}
use Rattle.status.specs.Rules.{AreInRow, slot_of, head_of, runs_of}

-- a commit that a slot names, with its records and the extents of its chain
pub record StoredMember : Type 0 where
  pub entry : Entry
  pub member : readings.Member
  pub extents : List Extent

-- the entry names this commit and its chain, and the extents hold its records, all in range
pub record IsStoredMember (s : StoredMember) : Type 0 where
  pub head_is : s.member.head ≡ head_of s.entry
  pub chain : IsChain s.entry.first s.entry.extents s.entry.records s.extents (map record_bytes s.member.records)
  pub each : AllByRecursion IsRecord s.member.records

-- what stands where: the slots of the log, the extents of the anchor chain, the members later than R, and the runs
pub record Layout : Type 0 where
  pub slots : List Slot
  pub anchors : List Extent
  pub members : List StoredMember
  pub runs : List StoredRun

-- the extents of members
abbrev pub extents_of : List StoredMember → List Extent
extents_of members = flat_map (λ s. s.extents) members

-- the extents of all live chains
abbrev pub live : Layout → List Extent
live layout = layout.anchors ++ extents_of layout.members

-- ---- what the slots name

-- the commits that a slot's body names
abbrev pub entries_in : Body → List Entry
entries_in (Commit members) = members.items
entries_in (Archived run) = []
entries_in (Reclaimed anchors) = []
entries_in (Floor relation floor) = []

-- the members of all slots, in order
abbrev pub entries_of : List Slot → List Entry
entries_of slots = flat_map (λ s. entries_in s.body) slots

-- those later than a mark
abbrev pub later_than : ℕ → List Entry → List Entry
later_than mark entries = filter (λ entry. nat_lt mark entry.time) entries

-- the anchor chain before the first reclaim: it is empty
abbrev pub no_anchors : Anchors
no_anchors = record { upto = 0; first = 0; extents = 0; records = 0 }

-- the anchor chain that stands after a slot: the one that it names, or the one before it
abbrev pub anchors_in : Anchors → Body → Anchors
anchors_in before (Commit members) = before
anchors_in before (Archived run) = before
anchors_in before (Reclaimed anchors) = anchors
anchors_in before (Floor relation floor) = before

-- the anchor chain of the last reclaimed slot, or what it was before
abbrev pub anchors_after : Anchors → List Slot → Anchors
anchors_after before [] = before
anchors_after before (s ∷ slots) = anchors_after (anchors_in before s.body) slots

-- ---- what a layout spells

-- the anchor chain of these numbers, in these extents, has these records
pub record IsAnchorChain (anchors : Anchors) (chain : List Extent) (list : List readings.OldRecord) : Type 0 where
  pub is_chain : IsChain anchors.first anchors.extents anchors.records chain (map old_bytes list)
  pub each : AllByRecursion IsOldRecord list

-- The layout of an area of this many slots spells the log of this reading, its members and its anchors. Nothing here speaks of bytes on a disk.
pub record LaysOutHeap (header : Header) (layout : Layout) (reading : readings.Reading) : Type 0 where
  pub profile_is : reading.profile ≡ header.profile
  pub slots_are : reading.slots ≡ header.slots
  pub pieces_are : reading.pieces ≡ header.pieces
  pub log_is : map (λ s. slot_of s.body) layout.slots ≡ reading.log
  -- the members
  pub members_are : map (λ s. s.member) layout.members ≡ reading.members
  pub entries_are : map (λ s. s.entry) layout.members ≡ later_than (reclaim_mark reading.log) (entries_of layout.slots)
  pub each_member : AllByRecursion IsStoredMember layout.members
  -- the anchors
  pub anchors_are : IsAnchorChain (anchors_after no_anchors layout.slots) layout.anchors reading.anchors
  -- no extent lies in two live chains
  pub apart : AreDistinct (live layout)
  -- each run starts where the one before it ends
  pub in_row : AreInRow 0 (runs_of layout.slots)

-- and it spells the runs of the reading
pub record LaysOutRuns (layout : Layout) (reading : readings.Reading) : Type 0 where
  pub runs_are : map (λ s. s.records) layout.runs ≡ reading.runs
  pub entries_are : map (λ s. s.entry) layout.runs ≡ runs_of layout.slots
  pub each_run : AllByRecursion IsStoredRun layout.runs

-- The layout spells this reading. Opening an image reads its heap, but no records of runs.
pub record IsLayoutOf (header : Header) (layout : Layout) (reading : readings.Reading) : Type 0 where
  pub heap : LaysOutHeap header layout reading
  pub runs : LaysOutRuns layout reading

-- the bytes of the image hold the layout, and no gate behind its log is open
pub record HoldsLayout (header : Header) (image : Image) (layout : Layout) : Type 0 where
  pub log : IsLog header image.status layout.slots
  pub extents : AllByRecursion (HoldsExtent image.heap) (live layout)
  pub runs : AllByRecursion (HoldsRun image.archive) layout.runs

-- the image reads so
pub record IsReadingOf (header : Header) (image : Image) (reading : readings.Reading) : Type 0 where
  pub layout : Layout
  pub is_layout : IsLayoutOf header layout reading
  pub held : HoldsLayout header image layout

-- the image stands for this history with these floors
pub record ImageStandsFor (header : Header) (image : Image) (h : History Value) (floors : ℕ → ℕ) : Type 0 where
  pub reading : readings.Reading
  pub reads_as : IsReadingOf header image reading
  pub stands : StandsFor reading h floors
