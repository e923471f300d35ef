-- What holds of opening.
use Rattle.std.specs.Prelude.{ℕ, ◌≡◌, ◌^◌, ◌<◌, ◌⊎◌, List, length}
use Rattle.disk.specs.Areas.{Image}
use Rattle.history.specs.Histories.{History}
use Rattle.law_image.specs.Values.{Value}
use Rattle.law_image.specs.Reading.{Reading}
use Rattle.law_image.specs.StandsFor.{StandsFor}
use Rattle.recovery.specs.declared.fault.OpenFault.{OpenFault}
use Rattle.recovery.specs.declared.fault.OpenFault.TheVariants.{Device, NoMemory}
use Rattle.log_roots.specs.declared.roots.Roots.{Roots}
use Rattle.log_roots.specs.Roots.{root_of}
use Rattle.law_log_layout.specs.HeapLog.{HeapLog, HeapStandsFor, IsLogOf, HoldsLog, PlacedChain, PlacedAnchors}
use Rattle.log_recovery.specs.Opening.{Opens, HoldsHeap, FailsHeap, FailsArchive, IsImageFault, ReadsRoots}

-- an image that stands for a history opens, as the log by which it does
abbrev pub StandsOpens : Type 0
StandsOpens = (most root : ℕ) (l : HeapLog) (reading : Reading) (heap archive : List ℕ) (h : History Value) (floors : ℕ → ℕ)
    → IsLogOf most root l reading → HoldsLog l heap archive → StandsFor reading h floors
    → Opens most root heap (length archive) l.chains l.next l.anchors

-- where the heap is read no check of it fails
abbrev pub HoldsOrFails : Type 0
HoldsOrFails = (most root : ℕ) (heap : List ℕ) (chains : List PlacedChain) (next : ℕ) (a : PlacedAnchors) (place : ℕ) → most < 2 ^ 32
    → HoldsHeap most root heap chains next a → ¬ FailsHeap most root heap place

-- and where checks fail it is one place that is told
abbrev pub FailsOnce : Type 0
FailsOnce = (most root : ℕ) (heap : List ℕ) (p q : ℕ) → most < 2 ^ 32 → FailsHeap most root heap p → FailsHeap most root heap q → p ≡ q

-- where an image opens no run and no roll is past the archive's end
abbrev pub OpensOrFails : Type 0
OpensOrFails =
    (most root : ℕ) (heap : List ℕ) (archive_len : ℕ) (chains : List PlacedChain) (next : ℕ) (a : PlacedAnchors) (place : ℕ) → most < 2 ^ 32
    → Opens most root heap archive_len chains next a → ¬ FailsArchive most root heap archive_len place

-- and where some are it is one start that is told
abbrev pub ArchiveFailsOnce : Type 0
ArchiveFailsOnce = (most root : ℕ) (heap : List ℕ) (archive_len p q : ℕ) → most < 2 ^ 32
    → FailsArchive most root heap archive_len p → FailsArchive most root heap archive_len q → p ≡ q

-- the fault is of the disk or of memory, and says nothing of the image
abbrev pub SaysNothing : OpenFault → Type 0
SaysNothing fault = (fault ≡ Device) ⊎ (fault ≡ NoMemory)

-- an image that stands for a history has no fault of its own
abbrev pub StandsIsSound : Type 0
StandsIsSound = (image : Image) (roots : Roots) (h : History Value) (floors : ℕ → ℕ) (fault : OpenFault)
    → ReadsRoots image.status roots → HeapStandsFor roots.extents (root_of roots) image.heap image.archive h floors
    → IsImageFault image fault → SaysNothing fault
