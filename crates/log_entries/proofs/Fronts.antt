-- Which item can stand at the front of bytes is told by their first byte.
use Rattle.std.proofs.Common.{◌≢◌, ℕ, List, [], ◌∷◌, ◌++◌, length, slice_index, ◌∙◌, ap, arith, length-append}
use Rattle.std.specs.List.{flat_map}
use Rattle.log_entries.specs.declared.entry.Archive.{Archive}
use Rattle.log_entries.specs.declared.entry.RelationFloor.{RelationFloor}
use Rattle.log_entries.specs.Spelling.{member_bytes, archive_bytes, floor_bytes, roll_bytes}
use Rattle.log_entries.specs.Ranges.{IsMember, IsArchive, IsFloor, IsRoll}
use Rattle.log_entries.specs.Items.{HasNone}
use Rattle.log_entries.specs.Lengths.{member_some}
use Rattle.log_entries.proofs.FixedRead.{archive_again, floor_again, roll_again}

pub no_roll : (bytes : List ℕ) → slice_index bytes 0 ≢ 9 → HasNone roll_bytes IsRoll bytes
no_roll bytes other x rest is same = other (ap (λ (l : List ℕ). slice_index l 0) same ∙ (roll_again x rest is).kind_is)

pub no_archive : (bytes : List ℕ) → slice_index bytes 0 ≢ 6 → HasNone archive_bytes IsArchive bytes
no_archive bytes other x rest is same = other (ap (λ (l : List ℕ). slice_index l 0) same ∙ (archive_again x rest is).kind_is)

pub no_floor : (bytes : List ℕ) → slice_index bytes 0 ≢ 7 → HasNone floor_bytes IsFloor bytes
no_floor bytes other x rest is same = other (ap (λ (l : List ℕ). slice_index l 0) same ∙ (floor_again x rest is).kind_is)

pub no_member : HasNone member_bytes IsMember []
no_member x rest is same = let some = member_some x in let len = ap (λ (l : List ℕ). length l) same in
    omega (arith, some, len, length-append (member_bytes x) rest)

-- behind the ROLLs of a base, and behind its ARCHIVEDs
pub no_roll_behind : (archives : List Archive) (floors : List RelationFloor)
    → HasNone roll_bytes IsRoll (flat_map archive_bytes archives ++ flat_map floor_bytes floors)
unfolding archive_bytes floor_bytes
no_roll_behind [] [] = no_roll [] (λ e. omega (arith, e))
no_roll_behind [] (f ∷ fs) = no_roll _ (λ e. omega (arith, e))
no_roll_behind (a ∷ others) floors = no_roll _ (λ e. omega (arith, e))

pub no_archive_behind : (floors : List RelationFloor) → HasNone archive_bytes IsArchive (flat_map floor_bytes floors)
unfolding floor_bytes
no_archive_behind [] = no_archive [] (λ e. omega (arith, e))
no_archive_behind (f ∷ fs) = no_archive _ (λ e. omega (arith, e))

pub no_floor_behind : HasNone floor_bytes IsFloor []
no_floor_behind = no_floor [] (λ e. omega (arith, e))
