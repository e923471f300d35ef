-- The one spelling of what a chain of the log holds.
use Rattle.std.specs.Prelude.{ℕ, ◌+◌, List, ◌∷◌, ◌++◌, length, sum}
use Rattle.std.specs.List.{flat_map}
use Rattle.wire.specs.Numbers.{u16_bytes, u32_bytes, u64_bytes}
use Rattle.deltas.specs.Records.{spelling}
use Rattle.log_entries.specs.declared.entry.Member.{Member}
use Rattle.log_entries.specs.declared.entry.Archive.{Archive}
use Rattle.log_entries.specs.declared.entry.RelationFloor.{RelationFloor}
use Rattle.log_entries.specs.declared.entry.Roll.{Roll}
use Rattle.log_entries.specs.declared.entry.AnchorName.{AnchorName}
use Rattle.log_entries.specs.declared.entry.Base.{Base}
use Rattle.log_entries.specs.declared.entry.Entry.{Entry}
use Rattle.log_entries.specs.declared.entry.Entry.TheVariants.{Group, Archived, Floor}
use Rattle.log_entries.specs.declared.entry.Entry.TheVariants as entries

-- a COMMIT: its label, its time, and how many records follow it
unfoldable pub commit_bytes : ℕ → ℕ → ℕ → List ℕ
commit_bytes label time count = 5 ∷ (u64_bytes label ++ u64_bytes time ++ u16_bytes count)

-- a commit of a group: its COMMIT, and behind it its records
unfoldable pub member_bytes : Member → List ℕ
member_bytes m = commit_bytes m.label m.time (length m.records) ++ flat_map spelling m.records

-- an ARCHIVED: up to which time, where its run is, how many records that has, and of how many runs it takes the place
unfoldable pub archive_bytes : Archive → List ℕ
archive_bytes a = 6 ∷ (u64_bytes a.upto ++ u64_bytes a.start ++ u64_bytes a.len ++ u64_bytes a.records ++ u16_bytes a.runs)

-- a FLOOR: the time, and its relation
unfoldable pub floor_bytes : RelationFloor → List ℕ
floor_bytes f = 7 ∷ (u64_bytes f.floor ++ u16_bytes f.relation)

-- a ROLL: where it is in the archive
unfoldable pub roll_bytes : Roll → List ℕ
roll_bytes r = 9 ∷ (u64_bytes r.start ++ u64_bytes r.len)

-- a BASE: up to which time, and where its anchors' chain is
unfoldable pub mark_bytes : ℕ → AnchorName → List ℕ
mark_bytes upto a = 8 ∷ (u64_bytes upto ++ u32_bytes a.first ++ u32_bytes a.extents ++ u32_bytes a.records)

-- a base: its BASE, then ROLLs, then ARCHIVEDs, then FLOORs
unfoldable pub base_bytes : Base → List ℕ
base_bytes b = mark_bytes b.upto b.anchors ++ flat_map roll_bytes b.rolls ++ flat_map archive_bytes b.archives ++ flat_map floor_bytes b.floors

-- the one spelling of what a chain of the log holds
unfoldable pub entry_bytes : Entry → List ℕ
entry_bytes (Group members) = flat_map member_bytes members
entry_bytes (Archived archive) = archive_bytes archive
entry_bytes (Floor floor) = floor_bytes floor
entry_bytes (entries.Base base) = base_bytes base

-- how many bytes a commit has whose records have these lengths
abbrev pub commit_len : List ℕ → ℕ
commit_len lengths = 19 + sum lengths
