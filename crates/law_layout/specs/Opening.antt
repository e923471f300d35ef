-- What opening an image reads of it, and the first of its checks that fails.
use Rattle.std.specs.Prelude.{◌≡◌, ◌⊎◌, ℕ, ◌+◌, ◌<◌, ◌≤◌, nat_lt, List, [], ◌∷◌, ◌++◌, length, map, filter, Option, IsTrue, slice_get, Some}
use Rattle.std.specs.List.{AllByRecursion}
use Rattle.std.specs.List.Sorted.{IsStrictlySortedBy}
use Rattle.disk.specs.Areas.{Image}
use Rattle.wire.specs.Spelling.{kind_of}
use Rattle.wire.specs.declared.slot.Member.{Member as Entry}
use Rattle.wire.specs.declared.slot.Run.{Run}
use Rattle.wire.specs.declared.slot.Anchors.{Anchors}
use Rattle.wire.specs.declared.slot.Slot.{Slot}
use Rattle.status.specs.declared.header.Header.{Header}
use Rattle.status.specs.Header.{total}
use Rattle.status.specs.Log.{HasHeader, OpensWith, IsOpen}
use Rattle.status.specs.Rules.{log_of, runs_of, KeepsRules, is_built}
use Rattle.history.specs.declared.key.Key.{Key}
use Rattle.history.specs.Key.{key_cmp}
use Rattle.history.specs.Histories.{History}
use Rattle.history.specs.Queries.{values_after}
use Rattle.law_image.specs.Values.{Value}
use Rattle.law_image.specs.Reading.{OldRecord, Reading, slot_count}
use Rattle.law_image.specs.Log.{heads_of, reclaim_mark, KeepsLogRules}
use Rattle.law_image.specs.Facts.{commit_read, latest, old_writes, values_at_mark, IsStored, AreStored}
use Rattle.law_image.specs.StandsFor.{StandsFor, IsHeader, IsChain as IsMember, IsAnchorUpto}
use Rattle.law_layout.specs.Extents.{Extent, HoldsExtent, AreDistinct}
use Rattle.law_layout.specs.Layouts.{StoredMember, IsStoredMember, Layout, live, entries_of, later_than, anchors_after, no_anchors, IsAnchorChain, LaysOutHeap}
use Rattle.law_layout.specs.Layouts.{IsLayoutOf, HoldsLayout}

-- ---- what is read

-- the slots before the first closed gate are these, and each may follow those before it
pub record HoldsLog (header : Header) (bytes : List ℕ) (slots : List Slot) : Type 0 where
  pub header_is : HasHeader header bytes
  pub opens : OpensWith header bytes slots
  pub ended : length slots < total header → ¬ IsOpen bytes (length slots)
  pub rules : KeepsRules header.profile slots

-- what opening does not read: the records of runs
abbrev pub unread : Reading → Reading
unread reading = record reading { runs = [] }

-- a layout as opening reads it: without the runs
abbrev pub unread_layout : Layout → Layout
unread_layout layout = record layout { runs = [] }

-- the rules of a reading, but for those of its runs' records
pub record ReadsHeap (reading : Reading) : Type 0 where
  pub header : IsHeader reading.profile reading.slots reading.pieces
  pub log : KeepsLogRules reading.profile reading.log
  pub fits : length reading.log ≤ slot_count reading
  pub members : map (λ m. m.head) reading.members ≡ filter (λ head. nat_lt (reclaim_mark reading.log) head.time) (heads_of reading.log)
  pub each_member : AllByRecursion IsMember reading.members
  pub stored : AreStored (values_at_mark reading) reading.members
  pub anchors : IsStrictlySortedBy key_cmp (map (λ old. old.key) reading.anchors)
  pub anchor_times : AllByRecursion (IsAnchorUpto (reclaim_mark reading.log)) reading.anchors

-- a run ends within an archive of this length
abbrev pub EndsWithin : ℕ → Run → Type 0
EndsWithin archive_len run = run.start + run.len ≤ archive_len

-- The image opens: no check fails, and what is read is this. It says nothing of gates behind the log, and nothing of the runs' records.
-- An image opens as one reading (the law opens_once); one that stands for a history opens (the law image_opens).
pub record Opens (header : Header) (image : Image) (layout : Layout) (reading : Reading) : Type 0 where
  pub log : HoldsLog header image.status layout.slots
  pub lays_out : LaysOutHeap header layout reading
  pub reads : ReadsHeap reading
  pub extents : AllByRecursion (HoldsExtent image.heap) (live layout)
  pub runs_end : AllByRecursion (EndsWithin (length image.archive)) (runs_of layout.slots)
  pub no_runs : layout.runs ≡ []
  pub no_run_records : reading.runs ≡ []

-- ---- which check fails first

-- The chain of a member is right: the heap holds it, none of its extents is taken, and its records are those that their writes are stored as over these values.
pub record IsLiveMember (heap : List ℕ) (taken : List Extent) (before : Key → Option Value) (s : StoredMember) : Type 0 where
  pub stored : IsStoredMember s
  pub rules : IsMember s.member
  pub held : AllByRecursion (HoldsExtent heap) s.extents
  pub apart : AreDistinct (taken ++ s.extents)
  pub spellings : AllByRecursion (IsStored before) s.member.records

-- the values that a member leaves
abbrev pub values_left : (Key → Option Value) → StoredMember → Key → Option Value
values_left before s = values_after before (commit_read before s.member)

-- the slot's member has such a chain
pub record HasMember (heap : List ℕ) (taken : List Extent) (before : Key → Option Value) (entry : Entry) : Type 0 where
  pub found : StoredMember
  pub entry_is : found.entry ≡ entry
  pub is : IsLiveMember heap taken before found

-- these members are right, one after another
abbrev pub AreLive : List ℕ → List Extent → (Key → Option Value) → List StoredMember → Type 0
AreLive heap taken before [] = Unit {0}
AreLive heap taken before (s ∷ members) = IsLiveMember heap taken before s × AreLive heap (taken ++ s.extents) (values_left before s) members

-- some of these members are right, and the next one, whose chain begins here, is not
abbrev pub FailsAt : List ℕ → List Extent → (Key → Option Value) → List Entry → ℕ → Type 0
FailsAt heap taken before [] place = ⊥
FailsAt heap taken before (entry ∷ entries) place =
    ((place ≡ entry.first) × ¬ HasMember heap taken before entry)
    ⊎ ((s : StoredMember) × (s.entry ≡ entry) × IsLiveMember heap taken before s × FailsAt heap (taken ++ s.extents) (values_left before s) entries place)

-- the anchor chain is right
pub record AreLiveAnchors (heap : List ℕ) (mark : ℕ) (anchors : Anchors) (chain : List Extent) (olds : List OldRecord) : Type 0 where
  pub is_chain : IsAnchorChain anchors chain olds
  pub held : AllByRecursion (HoldsExtent heap) chain
  pub apart : AreDistinct chain
  pub rising : IsStrictlySortedBy key_cmp (map (λ old. old.key) olds)
  pub times : AllByRecursion (IsAnchorUpto mark) olds

-- the heap holds a right anchor chain of these numbers, up to this mark
pub record HasAnchors (heap : List ℕ) (mark : ℕ) (anchors : Anchors) : Type 0 where
  pub chain : List Extent
  pub olds : List OldRecord
  pub are : AreLiveAnchors heap mark anchors chain olds

-- the reclaim mark of a log
abbrev pub mark_of : List Slot → ℕ
mark_of slots = reclaim_mark (log_of slots)

-- Of the chains that the log names, the anchors' and then the members', the first that is not right begins with this extent.
abbrev pub FailsHeap : List ℕ → List Slot → ℕ → Type 0
FailsHeap heap slots place =
    ((place ≡ (anchors_after no_anchors slots).first) × ¬ HasAnchors heap (mark_of slots) (anchors_after no_anchors slots))
    ⊎ ((has : HasAnchors heap (mark_of slots) (anchors_after no_anchors slots))
    × FailsAt heap has.chain (λ key. latest (old_writes has.olds key)) (later_than (mark_of slots) (entries_of slots)) place)

-- all chains that the log names are right
pub record HoldsHeap (heap : List ℕ) (slots : List Slot) : Type 0 where
  pub anchors : HasAnchors heap (mark_of slots) (anchors_after no_anchors slots)
  pub members : List StoredMember
  pub entries_are : map (λ s. s.entry) members ≡ later_than (mark_of slots) (entries_of slots)
  pub are : AreLive heap anchors.chain (λ key. latest (old_writes anchors.olds key)) members

-- the first run that ends past an archive of this length starts here
abbrev pub FailsRuns : ℕ → List Run → ℕ → Type 0
FailsRuns archive_len [] place = ⊥
FailsRuns archive_len (run ∷ runs) place =
    ((place ≡ run.start) × (archive_len < run.start + run.len)) ⊎ (EndsWithin archive_len run × FailsRuns archive_len runs place)

-- ---- laws

-- an image opens as one reading
abbrev pub OpensOnce : Type 0
OpensOnce =
    (header header' : Header) (image : Image) (layout layout' : Layout) (reading reading' : Reading) → Opens header image layout reading
    → Opens header' image layout' reading'
    → (header ≡ header') × (layout ≡ layout') × (reading ≡ reading')

-- the kinds of all slots are built
abbrev pub AreBuilt : Header → List Slot → Type 0
AreBuilt header slots = (n : ℕ) (slot : Slot) → slice_get slots n ≡ Some slot → IsTrue (is_built header.profile (kind_of slot.body))

-- an image that stands for a history opens, as the reading by which it does
abbrev pub StandsOpens : Type 0
StandsOpens = (header : Header) (image : Image) (layout : Layout) (reading : Reading) (h : History Value) (floors : ℕ → ℕ)
    → IsLayoutOf header layout reading → HoldsLayout header image layout → StandsFor reading h floors → AreBuilt header layout.slots
    → Opens header image (unread_layout layout) (unread reading)

-- where an image opens no check of the heap or of the archive fails
abbrev pub OpensOrFails : Type 0
OpensOrFails = (header : Header) (image : Image) (layout : Layout) (reading : Reading) (place : ℕ) → Opens header image layout reading
    → ¬ FailsHeap image.heap layout.slots place × ¬ FailsRuns (length image.archive) (runs_of layout.slots) place

-- of the chains one is the first that is not right, and of the runs one the first that ends past the archive; where all chains are right none is
abbrev pub FailsOnce : Type 0
FailsOnce = (image : Image) (slots : List Slot) (p q : ℕ)
    → (FailsHeap image.heap slots p → FailsHeap image.heap slots q → p ≡ q)
    × (FailsRuns (length image.archive) (runs_of slots) p → FailsRuns (length image.archive) (runs_of slots) q → p ≡ q)
    × (HoldsHeap image.heap slots → ¬ FailsHeap image.heap slots p)
