-- What an image is read as, and why it is not read.
use Rattle.std.specs.Prelude.{ℕ, List, length}
use Rattle.disk.specs.Areas.{Image}
use Rattle.disk.specs.declared.area.Area.TheVariants.{Status, Heap, Archive}
use Rattle.wire.specs.declared.slot.Run.{Run}
use Rattle.wire.specs.declared.slot.Slot.{Slot}
use Rattle.status.specs.declared.header.Header.{Header}
use Rattle.status.specs.Reading.{ReadsHeader, HoldsLog, IsDamaged}
use Rattle.status.specs.Rules.{runs_of}
use Rattle.law_layout.specs.Opening.{FailsHeap, HoldsHeap, FailsRuns}
use Rattle.recovery.specs.declared.fault.OpenFault.{OpenFault}
use Rattle.recovery.specs.declared.fault.OpenFault.TheVariants.{NotAStore, Damaged, Device, NoMemory}

-- A header stands in front of the area, and these are the slots before the first closed gate, which keep their rules.
pub record ReadsStatus (status : List ℕ) (header : Header) (slots : List Slot) : Type 0 where
  pub header_reads : ReadsHeader status header
  pub log : HoldsLog header status slots

-- an open slot may not stand in its place
pub record FailsStatusAt (status : List ℕ) (n : ℕ) : Type 0 where
  pub header : Header
  pub header_reads : ReadsHeader status header
  pub damaged : IsDamaged header status n

-- The status area is read, and this is the first extent of the first chain that is not right: first the anchors' chain, then those of the members in their
-- order.
pub record FailsHeapAt (image : Image) (place : ℕ) : Type 0 where
  pub header : Header
  pub slots : List Slot
  pub reads : ReadsStatus image.status header slots
  pub fails : FailsHeap image.heap slots place

-- All chains are right, and this is the start of the first run that does not end within the archive.
pub record FailsArchiveAt (image : Image) (place : ℕ) : Type 0 where
  pub header : Header
  pub slots : List Slot
  pub reads : ReadsStatus image.status header slots
  pub holds : HoldsHeap image.heap slots
  pub fails : FailsRuns (length image.archive) (runs_of slots) place

-- of reading alone: the device or memory gave out
abbrev pub IsReadFault : OpenFault → Type 0
IsReadFault NotAStore = ⊥
IsReadFault (Damaged area n) = ⊥
IsReadFault Device = Unit {0}
IsReadFault NoMemory = Unit {0}

-- of reading the heap
abbrev pub IsHeapFault : OpenFault → Type 0
IsHeapFault NotAStore = ⊥
IsHeapFault (Damaged Status n) = ⊥
IsHeapFault (Damaged Heap n) = Unit {0}
IsHeapFault (Damaged Archive n) = ⊥
IsHeapFault Device = Unit {0}
IsHeapFault NoMemory = Unit {0}

-- Why a log whose runs are these is not read with an archive of this length: the first run that does not end within it starts here.
abbrev pub IsRunsFault : ℕ → List Run → OpenFault → Type 0
IsRunsFault archive_len runs NotAStore = ⊥
IsRunsFault archive_len runs (Damaged Status n) = ⊥
IsRunsFault archive_len runs (Damaged Heap n) = ⊥
IsRunsFault archive_len runs (Damaged Archive n) = FailsRuns archive_len runs n
IsRunsFault archive_len runs Device = Unit {0}
IsRunsFault archive_len runs NoMemory = ⊥

-- why no header is read
abbrev pub IsHeaderFault : List ℕ → OpenFault → Type 0
IsHeaderFault status NotAStore = (header : Header) → ¬ ReadsHeader status header
IsHeaderFault status (Damaged area n) = ⊥
IsHeaderFault status Device = Unit {0}
IsHeaderFault status NoMemory = Unit {0}

-- Why an image is not read, by the first check that fails: no header stands in front, or a slot is the first that may not stand in its place, or a chain is not
-- right, or a run ends past the archive.
-- An image that opens has no fault, and any other has one alone (the law opens_or_fails).
abbrev pub IsImageFault : Image → OpenFault → Type 0
IsImageFault image NotAStore = (header : Header) → ¬ ReadsHeader image.status header
IsImageFault image (Damaged Status n) = FailsStatusAt image.status n
IsImageFault image (Damaged Heap n) = FailsHeapAt image n
IsImageFault image (Damaged Archive n) = FailsArchiveAt image n
IsImageFault image Device = Unit {0}
IsImageFault image NoMemory = Unit {0}
