-- A base that was read from the front of bytes.
use Rattle.std.specs.Prelude.{◌≡◌, ℕ, List, ◌++◌}
use Rattle.std.specs.List.{flat_map}
use Rattle.log_entries.specs.declared.entry.Base.{Base}
use Rattle.log_entries.specs.Spelling.{archive_bytes, floor_bytes, roll_bytes, base_bytes}
use Rattle.log_entries.specs.Ranges.{IsArchive, IsFloor, IsRoll, AreParts}
use Rattle.log_entries.specs.Items.{HasNone}

-- none of its lists goes on where the next one begins, nor the last one behind it
pub record Ends (b : Base) (rest : List ℕ) : Type 0 where
  pub rolls : HasNone roll_bytes IsRoll (flat_map archive_bytes b.archives ++ (flat_map floor_bytes b.floors ++ rest))
  pub archives : HasNone archive_bytes IsArchive (flat_map floor_bytes b.floors ++ rest)
  pub floors : HasNone floor_bytes IsFloor rest

-- its parts, each in its range, are spelled there, with all that its lists can have
pub record IsRead (bytes : List ℕ) (b : Base) (rest : List ℕ) : Type 0 where
  pub parts : AreParts b
  pub bytes_are : bytes ≡ base_bytes b ++ rest
  pub ends : Ends b rest
