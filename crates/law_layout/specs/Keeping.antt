-- Areas that keep a layout whatever a stop leaves.
use Rattle.std.specs.Prelude.{ℕ, List, [], ◌∷◌, ◌++◌, length}
use Rattle.std.specs.List.{AllByRecursion}
use Rattle.disk.specs.Areas.{AreaState, Areas, MayLeave}
use Rattle.disk.specs.Parts.{IsSettled}
use Rattle.wire.specs.Spelling.{IsSpelled}
use Rattle.wire.specs.declared.slot.Slot.{Slot}
use Rattle.status.specs.Log.{body_at, IsLog, IsOldOrNew}
use Rattle.law_layout.specs.Extents.{Extent, KeepsExtent}
use Rattle.law_layout.specs.Runs.{StoredRun, KeepsRun}
use Rattle.law_layout.specs.Layouts.{Layout, live}
use Rattle.status.specs.declared.header.Header.{Header}

-- whatever a stop may leave of the area has P
abbrev pub LeavesOnly : (List ℕ → Type 0) → AreaState → Type 0
LeavesOnly P a = (content : List ℕ) → MayLeave a content → P content

-- ---- the status area, at rest or with one slot in the writing

-- the status area holds this log, and all of it is on the disk
pub record StatusRests (header : Header) (slots : List Slot) (a : AreaState) : Type 0 where
  pub settled : IsSettled a
  pub log : IsLog header a.bytes slots

-- the body is written behind the closed gate, and may be torn
pub record IsBodyWritten (header : Header) (slots : List Slot) (slot : Slot) (a : AreaState) : Type 0 where
  pub log : IsLog header a.bytes slots
  pub body : IsSpelled header.profile (length slots) (body_at a.bytes (length slots)) slot
  pub left : LeavesOnly (λ bytes. IsLog header bytes slots) a

-- the body stands whole behind the closed gate
pub record IsBodySynced (header : Header) (slots : List Slot) (slot : Slot) (a : AreaState) : Type 0 where
  pub rests : StatusRests header slots a
  pub body : IsSpelled header.profile (length slots) (body_at a.bytes (length slots)) slot

-- the gate is written, and may be torn
pub record IsGateWritten (header : Header) (slots : List Slot) (slot : Slot) (a : AreaState) : Type 0 where
  pub log : IsLog header a.bytes (slots ++ slot ∷ [])
  pub left : LeavesOnly (IsOldOrNew header slots slot) a

-- ---- the other areas: they may be in the writing elsewhere

-- whatever a stop may leave of the heap holds these extents
abbrev pub KeepsExtents : List Extent → AreaState → Type 0
KeepsExtents extents a = AllByRecursion (KeepsExtent a) extents

-- whatever a stop may leave of the archive holds these runs
abbrev pub KeepsRuns : List StoredRun → AreaState → Type 0
KeepsRuns runs a = AllByRecursion (KeepsRun a) runs

-- both keep what the layout names
pub record KeepsParts (layout : Layout) (areas : Areas) : Type 0 where
  pub extents : KeepsExtents (live layout) areas.heap
  pub runs : KeepsRuns layout.runs areas.archive

-- no slot is in the writing, and the other areas keep what the log names
pub record RestsAs (header : Header) (layout : Layout) (areas : Areas) : Type 0 where
  pub status : StatusRests header layout.slots areas.status
  pub parts : KeepsParts layout areas
