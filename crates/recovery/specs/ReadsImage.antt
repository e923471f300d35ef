-- What is read of an image.
use Rattle.std.specs.Prelude.{◌≡◌, ℕ, ◌≤◌, IsTrue, List, length, map}
use Rattle.std.specs.List.{AllByRecursion}
use Rattle.disk.specs.Areas.{Image}
use Rattle.history.specs.declared.key.Key.{Key}
use Rattle.law_image.specs.Reading.{Reading}
use Rattle.law_image.specs.Log.{heads_of, last_time, archive_mark, reclaim_mark}
use Rattle.law_image.specs.Facts.{heap_facts}
use Rattle.chains.specs.KeyWrites.{writes_of}
use Rattle.extents.specs.declared.usage.Usage.{Usage}
use Rattle.extents.specs.Usages.{IsFree, IsKept, IsNoneOf}
use Rattle.status.specs.declared.header.Header.{Header}
use Rattle.status.specs.Rules.{is_built, head_of}
use Rattle.status.specs.Kept.{kept_of}
use Rattle.law_layout.specs.Layouts.{Layout, live}
use Rattle.law_layout.specs.Opening.{Opens}
use Rattle.recovery.specs.declared.recovered.Recovered.{Recovered}
use Rattle.recovery.specs.RunEntries.{AreEntriesOf}
use Rattle.recovery.specs.Chains.{live_named}
use Rattle.recovery.specs.HeapReads.{numbers_in, live_of}

-- the image opens so, and its header is of a profile that is built
pub record IsOpening (header : Header) (image : Image) (layout : Layout) (reading : Reading) : Type 0 where
  pub built : IsTrue (is_built header.profile 1)
  pub opens : Opens header image layout reading

-- these extents are kept, and all others are free: none is handed out
pub record KeepsOnly (usages : List Usage) (numbers : List ℕ) : Type 0 where
  pub kept : AllByRecursion (IsKept usages) numbers
  pub free : (number : ℕ) → 1 ≤ number → number ≤ 65536 → IsNoneOf number numbers → IsFree usages number

-- What was read is this layout and this reading.
pub record IsReadAs (layout : Layout) (reading : Reading) (r : Recovered) : Type 0 where
  pub used : r.used ≡ length layout.slots
  pub commits : map head_of r.commits.items ≡ heads_of reading.log
  pub floors : r.floors ≡ kept_of reading.log
  pub archived : r.archived ≡ archive_mark reading.log
  pub reclaimed : r.reclaimed ≡ reclaim_mark reading.log
  pub runs : AreEntriesOf layout.slots r.runs.items
  -- the extents of the live chains
  pub extents : KeepsOnly r.extents (numbers_in (live layout))
  pub live_are : map live_named r.live.items ≡ map live_of layout.members
  -- of each key the heap's facts: its versions are those among them
  pub writes : (key : Key) → writes_of r.chains key ≡ heap_facts reading key
  pub last_is : r.last ≡ last_time reading.log

-- the image opens, and this is what was read of it
pub record IsReadFrom (image : Image) (r : Recovered) : Type 0 where
  pub layout : Layout
  pub reading : Reading
  pub opening : IsOpening r.header image layout reading
  pub is : IsReadAs layout reading r
