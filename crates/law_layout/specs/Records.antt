-- The one spelling of each record of a reading, and the ranges that its bytes have room for.
use Rattle.std.specs.Prelude.{ℕ, ◌^◌, ◌<◌, List, ◌++◌}
use Rattle.history.specs.declared.key.Key.{Key}
use Rattle.history.specs.Key.{IsKey}
use Rattle.law_image.specs.Values.{IsValue}
use Rattle.law_image.specs.Reading.{HeapRecord, OldRecord, ArchiveRecord}
use Rattle.wire.specs.Numbers.{u64_bytes}
unfoldable pub use Rattle.wire.specs.Numbers.{u16_bytes}
use Rattle.wire.specs.Values.{value_bytes}
use Rattle.deltas.specs.Records.{spelling, record_of, old_record_of}
use Rattle.deltas.specs.Records as heap

-- ---- the bytes

-- the bytes of a key: its relation, then its record
abbrev pub key_bytes : Key → List ℕ
key_bytes key = u16_bytes key.relation ++ u64_bytes key.record

-- a record of a commit
unfoldable pub record_bytes : HeapRecord → List ℕ
record_bytes r = spelling (record_of r)

-- a record of the anchor chain
unfoldable pub old_bytes : OldRecord → List ℕ
old_bytes r = spelling (old_record_of r)

-- a record of a run
unfoldable pub archive_bytes : ArchiveRecord → List ℕ
archive_bytes r = key_bytes r.key ++ u64_bytes r.version.from ++ u64_bytes r.version.to ++ value_bytes r.version.value

-- ---- the ranges

-- a record of a commit is in range
abbrev pub IsRecord : HeapRecord → Type 0
IsRecord r = heap.IsRecord (record_of r)

-- a record of the anchor chain is in range
pub record IsOldRecord (r : OldRecord) : Type 0 where
  pub key : IsKey r.key
  pub from : r.from < 2 ^ 63
  pub value : IsValue r.value

-- a record of a run is in range
pub record IsArchiveRecord (r : ArchiveRecord) : Type 0 where
  pub key : IsKey r.key
  pub to : r.version.to < 2 ^ 63
  pub value : IsValue r.version.value
