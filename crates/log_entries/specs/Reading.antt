-- What bytes say, read from left to right, whatever stands there.
use Rattle.std.specs.Prelude.{ℕ, ◌^◌, ◌<◌, ◌≤◌, List, length, map, drop}
use Rattle.std.specs.List.Sorted.{IsStrictlySortedBy}
use Rattle.history.specs.Key.{key_cmp}
use Rattle.deltas.specs.declared.«record».Record.{Record}
use Rattle.byteorder.specs.Endian.{little_number}
use Rattle.log_entries.specs.declared.group.Head.{Head}
use Rattle.log_entries.specs.declared.entry.Archive.{Archive}
use Rattle.log_entries.specs.declared.entry.RelationFloor.{RelationFloor}
use Rattle.log_entries.specs.declared.entry.Roll.{Roll}
use Rattle.log_entries.specs.declared.entry.AnchorName.{AnchorName}

-- the label, the time and the number of records of a COMMIT
unfoldable pub head_at : List ℕ → Head
head_at bytes = record { label = little_number 8 (drop 1 bytes); time = little_number 8 (drop 9 bytes); records = little_number 2 (drop 17 bytes) }

-- a COMMIT of these records, of which each is in its range
pub record IsHeadOf (head : Head) (records : List Record) : Type 0 where
  pub time_low : 0 < head.time
  pub time_high : head.time < 2 ^ 63
  pub some : 0 < length records
  pub few : length records ≤ 1024
  pub rising : IsStrictlySortedBy key_cmp (map (λ r. r.key) records)

-- the run of an ARCHIVED
unfoldable pub archive_at : List ℕ → Archive
archive_at bytes = record {
  upto = little_number 8 (drop 1 bytes);
  start = little_number 8 (drop 9 bytes);
  len = little_number 8 (drop 17 bytes);
  records = little_number 8 (drop 25 bytes);
  runs = little_number 2 (drop 33 bytes);
}

-- the floor of a FLOOR
unfoldable pub floor_at : List ℕ → RelationFloor
floor_at bytes = record { relation = little_number 2 (drop 9 bytes); floor = little_number 8 (drop 1 bytes) }

-- the roll of a ROLL
unfoldable pub roll_at : List ℕ → Roll
roll_at bytes = record { start = little_number 8 (drop 1 bytes); len = little_number 8 (drop 9 bytes) }

-- the time of a BASE
unfoldable pub upto_at : List ℕ → ℕ
upto_at bytes = little_number 8 (drop 1 bytes)

-- the chain of anchors that a BASE names
unfoldable pub anchors_at : List ℕ → AnchorName
anchors_at bytes = record { first = little_number 4 (drop 9 bytes); extents = little_number 4 (drop 13 bytes); records = little_number 4 (drop 17 bytes) }
