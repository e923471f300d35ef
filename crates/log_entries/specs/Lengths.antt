-- How long spellings are.
use Rattle.std.specs.Prelude.{◌≡◌, ◌<◌, ℕ, length}
use Rattle.std.proofs.Common.{refl, arith, length-append}
use Rattle.std.specs.List.{flat_map}
use Rattle.wire.specs.Numbers.{u16_bytes, u32_bytes, u64_bytes}
use Rattle.deltas.specs.Records.{spelling}
use Rattle.log_entries.specs.declared.entry.Member.{Member}
use Rattle.log_entries.specs.declared.entry.Archive.{Archive}
use Rattle.log_entries.specs.declared.entry.RelationFloor.{RelationFloor}
use Rattle.log_entries.specs.declared.entry.Roll.{Roll}
use Rattle.log_entries.specs.declared.entry.AnchorName.{AnchorName}
use Rattle.log_entries.specs.Spelling.{commit_bytes, member_bytes, archive_bytes, floor_bytes, roll_bytes, mark_bytes}

pub length-commit : (label time count : ℕ) → length (commit_bytes label time count) ≡ 19
unfolding commit_bytes u16_bytes u64_bytes
length-commit label time count = refl

pub length-archive : (a : Archive) → length (archive_bytes a) ≡ 35
unfolding archive_bytes u16_bytes u64_bytes
length-archive a = refl

pub length-floor : (f : RelationFloor) → length (floor_bytes f) ≡ 11
unfolding floor_bytes u16_bytes u64_bytes
length-floor f = refl

pub length-roll : (r : Roll) → length (roll_bytes r) ≡ 17
unfolding roll_bytes u64_bytes
length-roll r = refl

pub length-mark : (upto : ℕ) (a : AnchorName) → length (mark_bytes upto a) ≡ 21
unfolding mark_bytes u32_bytes u64_bytes
length-mark upto a = refl

-- none is empty
pub archive_some : (a : Archive) → 0 < length (archive_bytes a)
archive_some a = omega (arith, length-archive a)

pub floor_some : (f : RelationFloor) → 0 < length (floor_bytes f)
floor_some f = omega (arith, length-floor f)

pub roll_some : (r : Roll) → 0 < length (roll_bytes r)
roll_some r = omega (arith, length-roll r)

pub member_some : (m : Member) → 0 < length (member_bytes m)
unfolding member_bytes
member_some m = omega (
  arith,
  length-append (commit_bytes m.label m.time (length m.records)) (flat_map spelling m.records),
  length-commit m.label m.time (length m.records),
)
