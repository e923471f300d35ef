-- The length of a base does not rest on how its anchors are named.
use Rattle.std.proofs.Common.{◌≡◌, ℕ, ◌++◌, List, length, length-append, arith}
use Rattle.std.specs.Prelude.{flat_map}
use Rattle.log_entries.specs.declared.entry.AnchorName.{AnchorName}
use Rattle.log_entries.specs.declared.entry.Archive.{Archive}
use Rattle.log_entries.specs.declared.entry.RelationFloor.{RelationFloor}
use Rattle.log_entries.specs.declared.entry.Roll.{Roll}
use Rattle.log_entries.specs.Lengths.{length-mark}
use Rattle.log_entries.specs.Spelling.{archive_bytes, base_bytes, floor_bytes, mark_bytes, roll_bytes}

pub length-named : (upto : ℕ) (a b : AnchorName) (rolls : List Roll) (archives : List Archive) (floors : List RelationFloor)
    → length (base_bytes (record { upto = upto; anchors = a; rolls = rolls; archives = archives; floors = floors }))
    ≡ length (base_bytes (record { upto = upto; anchors = b; rolls = rolls; archives = archives; floors = floors }))
unfolding base_bytes
length-named upto a b rolls archives floors =
    let rs = flat_map roll_bytes rolls in
    let xs = flat_map archive_bytes archives in
    let fs = flat_map floor_bytes floors in
    omega (
      arith,
      length-append (mark_bytes upto a ++ rs ++ xs) fs,
      length-append (mark_bytes upto b ++ rs ++ xs) fs,
      length-append (mark_bytes upto a ++ rs) xs,
      length-append (mark_bytes upto b ++ rs) xs,
      length-append (mark_bytes upto a) rs,
      length-append (mark_bytes upto b) rs,
      length-mark upto a,
      length-mark upto b,
    )
