-- The log in the heap where it lies, and what an image that has it reads as.
use Rattle.std.specs.Prelude.{◌*◌, ◌^◌, ◌⊎◌, ◌+◌, ◌≤◌, ◌/◌, nat_lt, filter, if◌then◌else◌}
use Rattle.std.specs.List.Sorted.{IsStrictlySortedBy}
use Rattle.history.specs.Key.{key_cmp}
use Rattle.history.specs.declared.key.Key.{Key}
use Rattle.history.specs.Versions.{stands_at, as_write}
use Rattle.law_image.specs.Facts.{heap_versions, old_writes}
use Rattle.law_image.specs.Log.{archive_mark, reclaim_mark, told_time}
use Rattle.std.specs.Prelude.{ℕ, ◌≡◌, ◌<◌, ◌-◌, List, [], ◌∷◌, ◌++◌, length, map, take, flat_map, Contains, ◌↔◌}
use Rattle.std.specs.List.{AllByRecursion}
use Rattle.wire.specs.Numbers.{u64_bytes}
use Rattle.wire.specs.declared.slot.Run.{Run}
use Rattle.history.specs.Histories.{History}
use Rattle.law_image.specs.Values.{Value}
use Rattle.law_image.specs.Reading.{Head, OldRecord, Reading}
use Rattle.law_image.specs.Reading as readings
use Rattle.law_image.specs.Log.{AreRisingAfter}
use Rattle.law_image.specs.StandsFor.{StandsFor}
use Rattle.law_log.specs.Chains.{LogChain, OfBase, OfGroup, OfRun, OfFloor, KeepsChainRules, reading_of}
use Rattle.law_log.specs.Chains as logs
use Rattle.deltas.specs.Extents.{extent_start}
use Rattle.deltas.specs.Records.{heap_record}
use Rattle.law_layout.specs.Records.{old_bytes, IsOldRecord}
use Rattle.law_layout.specs.Runs.{StoredRun, IsStoredRun, HoldsRun}
use Rattle.disk.specs.Parts.{HoldsPart, AreApart}
use Rattle.log_extents.specs.Extents.{LinkedExtent}
use Rattle.log_extents.specs.Chains.{count_of, first_or, chain_of, IsNumberOf, AreDistinct}
use Rattle.log_entries.specs.declared.entry.Member.{Member}
use Rattle.log_entries.specs.declared.entry.Roll.{Roll}
use Rattle.log_entries.specs.declared.entry.RelationFloor.{RelationFloor}
use Rattle.log_entries.specs.declared.entry.AnchorName.{AnchorName}
use Rattle.log_entries.specs.declared.entry.Base.{Base}
use Rattle.log_entries.specs.declared.entry.Entry.{Entry}
use Rattle.log_entries.specs.declared.entry.Entry.TheVariants.{Group, Archived, Floor}
use Rattle.log_entries.specs.declared.entry.Entry.TheVariants as entries
use Rattle.log_entries.specs.Spelling.{entry_bytes}
use Rattle.log_entries.specs.Ranges.{IsEntry, run_of}
use Rattle.law_log_layout.specs.Turns.{HoldsAll, IsClosed}
use Rattle.log_writer.specs.Turns.{open_gate, extent_part, written_parts, Part, Turn}

-- ---- what lies where

-- A chain of the log where it lies: its extents, the extent where the log goes on behind it, and what it holds.
pub record PlacedChain : Type 0 where
  pub numbers : List ℕ
  pub link : ℕ
  pub entry : Entry

-- the chain of the anchors where it lies
pub record PlacedAnchors : Type 0 where
  pub numbers : List ℕ
  pub records : List OldRecord

-- the names of commits in a roll of the archive
pub record PlacedRoll : Type 0 where
  pub roll : Roll
  pub names : List Head

-- The log of an image: its chains, the extent where it ends, the anchors, and in the archive the rolls and the runs that no other took the place of.
pub record HeapLog : Type 0 where
  pub chains : List PlacedChain
  pub next : ℕ
  pub anchors : PlacedAnchors
  pub rolls : List PlacedRoll
  pub runs : List StoredRun

-- ---- its bytes

-- the extents of a chain of the log, whose gate is open
abbrev pub extents_of : PlacedChain → List LinkedExtent
extents_of c = chain_of open_gate c.link c.numbers (entry_bytes c.entry)

-- and those of the anchors, which have no gate and name no other chain
abbrev pub anchor_extents : PlacedAnchors → List LinkedExtent
anchor_extents a = chain_of 0 0 a.numbers (flat_map old_bytes a.records)

-- all parts of the heap that the log names
abbrev pub heap_parts : HeapLog → List Part
heap_parts l = map extent_part (anchor_extents l.anchors ++ flat_map extents_of l.chains)

-- the extents of all live chains
abbrev pub live_numbers : HeapLog → List ℕ
live_numbers l = l.anchors.numbers ++ flat_map (λ (c : PlacedChain). c.numbers) l.chains

-- a name in a roll: the label, then the time
abbrev pub name_bytes : Head → List ℕ
name_bytes head = u64_bytes head.label ++ u64_bytes head.time

-- the archive has the roll's names
abbrev pub HoldsRoll : List ℕ → PlacedRoll → Type 0
HoldsRoll archive r = HoldsPart r.roll.start (flat_map name_bytes r.names) archive

-- ---- its form

-- a chain lies in extents of the heap, as many as its bytes need
pub record IsPlaced (most : ℕ) (c : PlacedChain) : Type 0 where
  pub entry : IsEntry most c.entry
  pub some : 0 < length c.numbers
  pub count : length c.numbers ≡ count_of (length (entry_bytes c.entry))
  pub in_range : AllByRecursion (IsNumberOf most) c.numbers
  pub link : IsNumberOf most c.link

-- the anchors lie so, where there are any
pub record ArePlaced (most : ℕ) (a : PlacedAnchors) : Type 0 where
  pub count : length a.numbers ≡ count_of (length (flat_map old_bytes a.records))
  pub in_range : AllByRecursion (IsNumberOf most) a.numbers
  pub each : AllByRecursion IsOldRecord a.records

-- each chain names the head of the one behind it, and the last one the extent where the log ends
abbrev pub AreChained : ℕ → List PlacedChain → ℕ → Type 0
AreChained root [] next = root ≡ next
AreChained root (c ∷ chains) next = (first_or 0 c.numbers ≡ root) × AreChained c.link chains next

-- ---- what it tells

-- a commit with its records
abbrev pub member_told : Member → readings.Member
member_told m = record { head = record { time = m.time; label = m.label }; records = map heap_record m.records }

-- a floor
abbrev pub floor_told : RelationFloor → logs.RelationFloor
floor_told f = record { relation = f.relation; floor = f.floor }

-- the base, whose rolls name these commits
abbrev pub base_told : List Head → Base → logs.Base
base_told names b = record { upto = b.upto; names = names; marks = map (λ a. a.upto) b.archives; floors = map floor_told b.floors }

-- a chain of the log
abbrev pub chain_told : List Head → Entry → LogChain
chain_told names (Group members) = OfGroup (map member_told members)
chain_told names (Archived archive) = OfRun archive.upto archive.runs
chain_told names (Floor floor) = OfFloor (floor_told floor)
chain_told names (entries.Base base) = OfBase (base_told names base)

-- all of them
abbrev pub chains_told : List Head → List PlacedChain → List LogChain
chains_told names chains = map (λ c. chain_told names c.entry) chains

-- the runs that stand behind one chain more: a run takes the place of so many of the last ones
abbrev pub runs_behind : List Run → Entry → List Run
runs_behind before (Group members) = before
runs_behind before (Archived archive) = take (length before - archive.runs) before ++ run_of archive ∷ []
runs_behind before (Floor floor) = before
runs_behind before (entries.Base base) = before ++ map run_of base.archives

-- and behind all of these
abbrev pub runs_from : List Run → List PlacedChain → List Run
runs_from before [] = before
runs_from before (c ∷ chains) = runs_from (runs_behind before c.entry) chains

-- the rolls and the anchors that the base names
abbrev pub rolls_in : Entry → List Roll
rolls_in (Group members) = []
rolls_in (Archived archive) = []
rolls_in (Floor floor) = []
rolls_in (entries.Base base) = base.rolls

-- where the base says that its anchors are
abbrev pub anchors_in : Entry → List AnchorName
anchors_in (Group members) = []
anchors_in (Archived archive) = []
anchors_in (Floor floor) = []
anchors_in (entries.Base base) = base.anchors ∷ []

-- the anchors are as the base says, if there is one, and there are none where there is no base
abbrev pub AreNamed : List AnchorName → PlacedAnchors → Type 0
AreNamed [] a = (a.numbers ≡ []) × (a.records ≡ [])
AreNamed (name ∷ names) a = (first_or 0 a.numbers ≡ name.first) × (length a.numbers ≡ name.extents) × (length a.records ≡ name.records)

-- the commits that rolls name, by rising time
pub record AreNamesOf (rolls : List PlacedRoll) (names : List Head) : Type 0 where
  pub rising : AreRisingAfter 0 names
  pub same : (head : Head) → Contains names head ↔ Contains (flat_map (λ (r : PlacedRoll). r.names) rolls) head
  pub many : length names ≡ length (flat_map (λ (r : PlacedRoll). r.names) rolls)

-- one name is before another by its label, and by its time where the labels are one
abbrev pub IsNamedBefore : Head → Head → Type 0
IsNamedBefore a b = (a.label < b.label) ⊎ ((a.label ≡ b.label) × (a.time < b.time))

-- each name is before all behind it
abbrev pub AreNamedInOrder : List Head → Type 0
AreNamedInOrder [] = Unit {0}
AreNamedInOrder (head ∷ heads) = AllByRecursion (IsNamedBefore head) heads × AreNamedInOrder heads

-- a name in its ranges
abbrev pub IsName : Head → Type 0
IsName head = (head.label < 2 ^ 64) × (0 < head.time) × (head.time < 2 ^ 63)

-- a roll has as many names as its length says, in order
pub record IsStoredRoll (r : PlacedRoll) : Type 0 where
  pub length_is : 16 * length r.names ≡ r.roll.len
  pub in_order : AreNamedInOrder r.names
  pub each : AllByRecursion IsName r.names

-- a part of the archive
pub record Span : Type 0 where
  pub start : ℕ
  pub len : ℕ

-- the part of a run, and of a roll
abbrev pub run_span : Run → Span
run_span run = record { start = run.start; len = run.len }

abbrev pub roll_span : PlacedRoll → Span
roll_span r = record { start = r.roll.start; len = r.roll.len }

-- the parts of the archive that the log names
abbrev pub spans_of : List StoredRun → List PlacedRoll → List Span
spans_of runs rolls = map (λ (s : StoredRun). run_span s.entry) runs ++ map roll_span rolls

-- the two have no byte in common; an empty one has none
abbrev pub ShareNoByte : Span → Span → Type 0
ShareNoByte s t = (s.len ≡ 0) ⊎ ((t.len ≡ 0) ⊎ AreApart s.start s.len t.start t.len)

-- no two of them have a byte in common
abbrev pub AreSpansApart : List Span → Type 0
AreSpansApart [] = Unit {0}
AreSpansApart (s ∷ spans) = AllByRecursion (ShareNoByte s) spans × AreSpansApart spans

-- each of them begins at or behind the end of the one before it
abbrev pub AreSpansInRow : ℕ → List Span → Type 0
AreSpansInRow place [] = Unit {0}
AreSpansInRow place (s ∷ spans) = (place ≤ s.start) × AreSpansInRow (s.start + s.len) spans

-- the runs that a chain names, also where another took the place of them since
abbrev pub archives_in : Entry → List Run
archives_in (Group members) = []
archives_in (Archived archive) = run_of archive ∷ []
archives_in (Floor floor) = []
archives_in (entries.Base base) = map run_of base.archives

-- ---- its shares of the heap

-- the extents of a chain that count as the log's: all but the base's
abbrev pub counted_of : List ℕ → Entry → List ℕ
counted_of numbers (Group members) = numbers
counted_of numbers (Archived archive) = numbers
counted_of numbers (Floor floor) = numbers
counted_of numbers (entries.Base base) = []

-- the anchors of the state at a time: an old record for each version that stands then, in the order of the keys
pub record AreAnchorsAt (time : ℕ) (reading : Reading) (olds : List OldRecord) : Type 0 where
  pub each : (key : Key) → old_writes olds key ≡ map as_write (filter (stands_at time) (heap_versions reading key))
  pub rising : IsStrictlySortedBy key_cmp (map (λ (old : OldRecord). old.key) olds)

-- a base has room for one roll more
abbrev pub IsBaseSmall : ℕ → Entry → Type 0
IsBaseSmall most (Group members) = Unit {0}
IsBaseSmall most (Archived archive) = Unit {0}
IsBaseSmall most (Floor floor) = Unit {0}
IsBaseSmall most (entries.Base base) = count_of (length (entry_bytes (entries.Base base)) + 17) ≤ most / 16

-- Half of the heap is the log's, with where it ends and, if not all is archived, one extent more. A quarter is that of the base that stands and of the anchors
-- of
-- any state from the reclaim mark on: a sixteenth and three.
pub record KeepsShares (most : ℕ) (l : HeapLog) (reading : Reading) : Type 0 where
  pub log : length (flat_map (λ (c : PlacedChain). counted_of c.numbers c.entry) l.chains) + 1 +
      (if nat_lt (archive_mark reading.log) (told_time reading.log) then 1 else 0)
      ≤ most / 2
  pub anchors : (time : ℕ) (olds : List OldRecord) → reclaim_mark reading.log ≤ time → AreAnchorsAt time reading olds
      → count_of (length (flat_map old_bytes olds)) ≤ (3 * most) / 16
  pub base : AllByRecursion (λ (c : PlacedChain). IsBaseSmall most c.entry) l.chains

-- ---- the image

-- The log in a heap of this many extents, from this root on, tells this reading.
pub record IsLogOf (most root : ℕ) (l : HeapLog) (reading : Reading) : Type 0 where
  pub placed : AllByRecursion (IsPlaced most) l.chains
  pub chained : AreChained root l.chains l.next
  pub anchors : ArePlaced most l.anchors
  pub next : IsNumberOf most l.next
  -- no extent lies in two live chains, and the log ends in none
  pub apart : AreDistinct (l.next ∷ live_numbers l)
  pub anchors_named : AreNamed (flat_map (λ (c : PlacedChain). anchors_in c.entry) l.chains) l.anchors
  pub rolls_named : map (λ (r : PlacedRoll). r.roll) l.rolls ≡ flat_map (λ (c : PlacedChain). rolls_in c.entry) l.chains
  pub runs_named : map (λ (s : StoredRun). s.entry) l.runs ≡ runs_from [] l.chains
  pub each_run : AllByRecursion IsStoredRun l.runs
  pub each_roll : AllByRecursion IsStoredRoll l.rolls
  pub archive_apart : AreSpansApart (spans_of l.runs l.rolls)
  pub archives_in_row : AreSpansInRow 0 (map run_span (flat_map (λ (c : PlacedChain). archives_in c.entry) l.chains))
  pub rolls_in_row : AreSpansInRow 0 (map roll_span l.rolls)
  pub shares : KeepsShares most l reading
  pub names : List Head
  pub are_names : AreNamesOf l.rolls names
  pub rules : KeepsChainRules (chains_told names l.chains)
  pub reading_is : reading ≡ reading_of most (chains_told names l.chains) l.anchors.records (map (λ (s : StoredRun). s.records) l.runs)

-- The bytes of heap and archive hold it, and the log ends at a closed gate.
pub record HoldsLog (l : HeapLog) (heap archive : List ℕ) : Type 0 where
  pub parts : HoldsAll (heap_parts l) heap
  pub ends : IsClosed (extent_start l.next) heap
  pub rolls : AllByRecursion (HoldsRoll archive) l.rolls
  pub runs : AllByRecursion (HoldsRun archive) l.runs

-- Heap and archive stand for this history with these floors, where this root counts.
pub record HeapStandsFor (most root : ℕ) (heap archive : List ℕ) (h : History Value) (floors : ℕ → ℕ) : Type 0 where
  pub log : HeapLog
  pub reading : Reading
  pub is_log : IsLogOf most root log reading
  pub held : HoldsLog log heap archive
  pub stands : StandsFor reading h floors

-- ---- one chain more

-- the log with a chain behind it
abbrev pub with_chain : HeapLog → PlacedChain → HeapLog
with_chain l c = record l { chains = l.chains ++ c ∷ []; next = c.link }

-- and with these runs
abbrev pub with_runs : HeapLog → PlacedChain → List StoredRun → HeapLog
with_runs l c runs = record (with_chain l c) { runs = runs }

-- how it comes behind the log
abbrev pub turn_of : ℕ → PlacedChain → Turn
turn_of next c = record { gate = extent_start next; parts = written_parts (extents_of c); closes = extent_start c.link }

-- The chain may come behind the log: it begins where the log ends, and the log then ends at a free extent.
pub record MayJoin (most : ℕ) (l : HeapLog) (c : PlacedChain) : Type 0 where
  pub placed : IsPlaced most c
  pub head : first_or 0 c.numbers ≡ l.next
  pub apart : AreDistinct (c.link ∷ live_numbers l ++ c.numbers)

-- a group with its extents
abbrev pub placed_group : List ℕ → ℕ → List Member → PlacedChain
placed_group numbers link members = record { numbers = numbers; link = link; entry = Group members }
