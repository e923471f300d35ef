-- What a chain of the log may say: each number in its range, and each part in its place.
-- The rules between the chains of a log, and those over the previous versions of keys, are not said here.
use Rattle.std.specs.Prelude.{◌≡◌, ◌⊎◌, ℕ, ◌+◌, ◌%◌, ◌^◌, ◌<◌, ◌≤◌, List, [], ◌∷◌, length}
use Rattle.std.specs.List.{AllByRecursion}
use Rattle.wire.specs.declared.slot.Run.{Run}
use Rattle.wire.specs.Spelling.{IsRun}
use Rattle.deltas.specs.declared.«record».Record.{Record}
use Rattle.deltas.specs.declared.chain.Kinds.TheVariants.{OfCommit}
use Rattle.deltas.specs.Records.{IsRecord}
use Rattle.deltas.specs.Chains.{IsPermitted, AreRecordsOf}
use Rattle.log_entries.specs.declared.entry.Member.{Member}
use Rattle.log_entries.specs.declared.entry.Archive.{Archive}
use Rattle.log_entries.specs.declared.entry.RelationFloor.{RelationFloor}
use Rattle.log_entries.specs.declared.entry.Roll.{Roll}
use Rattle.log_entries.specs.declared.entry.AnchorName.{AnchorName}
use Rattle.log_entries.specs.declared.entry.Base.{Base}
use Rattle.log_entries.specs.declared.entry.Entry.{Entry}
use Rattle.log_entries.specs.declared.entry.Entry.TheVariants.{Group, Archived, Floor}
use Rattle.log_entries.specs.declared.entry.Entry.TheVariants as entries

-- ---- a group

-- a record that a commit may hold: a value, a delta or a deletion, in its range
abbrev pub IsStored : Record → Type 0
IsStored r = IsRecord r × IsPermitted OfCommit r.content

-- a commit: its time, and 1 to 1,024 records in strictly rising key order
pub record IsMember (m : Member) : Type 0 where
  pub label : m.label < 2 ^ 64
  pub time_low : 0 < m.time
  pub time_high : m.time < 2 ^ 63
  pub some : 0 < length m.records
  pub few : length m.records ≤ 1024
  pub are_records : AreRecordsOf OfCommit m.records

-- 1 to 1,024 commits
pub record AreMembers (members : List Member) : Type 0 where
  pub some : 0 < length members
  pub few : length members ≤ 1024
  pub each : AllByRecursion IsMember members

-- ---- jobs

-- the run of an ARCHIVED, without the number of runs that it takes the place of
abbrev pub run_of : Archive → Run
run_of a = record { upto = a.upto; start = a.start; len = a.len; records = a.records }

-- a run in its ranges, which takes the place of any number of runs
pub record IsArchive (a : Archive) : Type 0 where
  pub run : IsRun (run_of a)
  pub runs : a.runs < 2 ^ 16

-- a floor of any relation, which is a commit time
pub record IsFloor (f : RelationFloor) : Type 0 where
  pub low : 0 < f.floor
  pub high : f.floor < 2 ^ 63
  pub relation : f.relation < 2 ^ 16

-- ---- a base

-- whole names of 16 bytes, at least one, that end below 2^63
pub record IsRoll (r : Roll) : Type 0 where
  pub whole : r.len % 16 ≡ 0
  pub some : 16 ≤ r.len
  pub end : r.start + r.len < 2 ^ 63

-- no chain of anchors
pub record AreNone (a : AnchorName) : Type 0 where
  pub first : a.first ≡ 0
  pub extents : a.extents ≡ 0
  pub records : a.records ≡ 0

-- a chain of anchors within a heap of this many extents
pub record AreSome (most : ℕ) (a : AnchorName) : Type 0 where
  pub first_low : 0 < a.first
  pub first_high : a.first ≤ most
  pub extents_low : 0 < a.extents
  pub extents_high : a.extents ≤ most
  pub records : 0 < a.records

-- an ARCHIVED of a base takes the place of no other run
abbrev pub HasNoRuns : Archive → Type 0
HasNoRuns a = a.runs ≡ 0

-- each floor is of a greater relation than those before it
abbrev pub AreRising : List RelationFloor → Type 0
AreRising [] = Unit {0}
AreRising (f ∷ fs) = AllByRecursion (λ (g : RelationFloor). f.relation < g.relation) fs × AreRising fs

-- the parts of a base, each in its range
pub record AreParts (b : Base) : Type 0 where
  pub upto : b.upto < 2 ^ 64
  pub first : b.anchors.first < 2 ^ 32
  pub extents : b.anchors.extents < 2 ^ 32
  pub records : b.anchors.records < 2 ^ 32
  pub rolls : AllByRecursion IsRoll b.rolls
  pub archives : AllByRecursion IsArchive b.archives
  pub floors : AllByRecursion IsFloor b.floors

-- a commit time, anchors within the heap or none, and the parts that a base may have beside each other
pub record IsWhole (most : ℕ) (b : Base) : Type 0 where
  pub upto_low : 0 < b.upto
  pub upto_high : b.upto < 2 ^ 63
  pub anchors : AreNone b.anchors ⊎ AreSome most b.anchors
  pub runs : AllByRecursion HasNoRuns b.archives
  pub rising : AreRising b.floors

-- a base in the heap of this many extents
pub record IsBase (most : ℕ) (b : Base) : Type 0 where
  pub parts : AreParts b
  pub whole : IsWhole most b

-- ---- a chain of the log

-- what a chain of the log in a heap of this many extents may hold
abbrev pub IsEntry : ℕ → Entry → Type 0
IsEntry most (Group members) = AreMembers members
IsEntry most (Archived archive) = IsArchive archive
IsEntry most (Floor floor) = IsFloor floor
IsEntry most (entries.Base base) = IsBase most base
