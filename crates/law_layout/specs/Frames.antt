-- Images that agree on what a layout names.
use Rattle.std.specs.Prelude.{◌≡◌, ℕ, ◌+◌, ◌<◌, ◌≤◌, List, length, slice_index}
use Rattle.std.specs.List.{AllByRecursion}
use Rattle.disk.specs.Areas.{Image}
use Rattle.disk.specs.Parts.{Agrees}
use Rattle.wire.specs.Spelling.{IsSpelled}
use Rattle.status.specs.Log.{slot_start, body_at, IsOpen, HasLogOf}
use Rattle.law_layout.specs.Extents.{Extent, HoldsExtent, extent_start, extent_bytes}
use Rattle.law_layout.specs.Runs.{StoredRun, run_bytes}
use Rattle.law_layout.specs.Layouts.{Layout, live, extents_of}
use Rattle.law_layout.specs.Turn.{Group}
use Rattle.status.specs.declared.header.Header.{Header}

-- new has the bytes of old at n places from `at` on
pub record HasPartOf (at n : ℕ) (old new : List ℕ) : Type 0 where
  pub inside : at + n ≤ length new
  pub same : (k : ℕ) → at ≤ k → k < at + n → slice_index new k ≡ slice_index old k

-- new has the bytes of old where this extent stands in the heap
abbrev pub HasExtentOf : List ℕ → List ℕ → Extent → Type 0
HasExtentOf old new e = HasPartOf (extent_start e.number) (length (extent_bytes e)) old new

-- new has the bytes of old where this run stands in the archive
abbrev pub HasRunOf : List ℕ → List ℕ → StoredRun → Type 0
HasRunOf old new s = HasPartOf s.entry.start (length (run_bytes s.records)) old new

-- the heap and the archive of new have all that old has of the layout
pub record HasPartsOf (layout : Layout) (old new : Image) : Type 0 where
  pub extents : AllByRecursion (HasExtentOf old.heap new.heap) (live layout)
  pub runs : AllByRecursion (HasRunOf old.archive new.archive) layout.runs

-- new has the header, the slots, the live extents and the runs of old, and no gate behind the log is open
pub record HasLayoutOf (header : Header) (layout : Layout) (old new : Image) : Type 0 where
  pub log : HasLogOf header layout.slots old.status new.status
  pub parts : HasPartsOf layout old new

-- new has all of that and, behind the log, the group's slot with its gate open, and the group's extents
pub record HasGroupToo (header : Header) (layout : Layout) (group : Group) (old new : Image) : Type 0 where
  pub elsewhere : Agrees (slot_start (length layout.slots)) 512 old.status new.status
  pub is_open : IsOpen new.status (length layout.slots)
  pub spelled : IsSpelled header.profile (length layout.slots) (body_at new.status (length layout.slots)) group.slot
  pub extents : AllByRecursion (HoldsExtent new.heap) (extents_of group.members)
  pub parts : HasPartsOf layout old new
