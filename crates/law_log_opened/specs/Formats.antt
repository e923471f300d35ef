-- What a format leaves stands for the empty history.
use Rattle.std.specs.Prelude.{ℕ, ◌≡◌, ◌⊎◌, ◌↔◌, Bool, IsTrue, [], Result, Err, OnOk}
use Rattle.disk.specs.Areas.{Areas, Image, AreSound, MayLeave, LeavesImage, image_of}
use Rattle.disk.specs.Calls.{DiskState}
use Rattle.disk.specs.Parts.{IsSettled}
use Rattle.history.specs.Machine.{opened_by}
use Rattle.recovery.specs.declared.fault.FormatFault.{FormatFault}
use Rattle.recovery.specs.declared.fault.FormatFault.TheVariants as faults
use Rattle.log_roots.specs.declared.roots.Roots.{Roots}
use Rattle.log_roots.specs.Roots.{root_of, IsHeapSize}
use Rattle.log_recovery.specs.Opening.{ReadsRoots}
use Rattle.log_store.specs.Values.{LogStoreValue}
use Rattle.log_store.specs.Formats as formats
use Rattle.log_store.specs.Formats.{new_roots, IsOccupied, Creates}
use Rattle.log_store.specs.Opens.{Opens}
use Rattle.law_log_store.specs.Standing.{IsImageOf}
use Rattle.law_log_queries.specs.Archive.{Stands}

-- ---- a format that is made

-- The disk is formatted for a heap of so many extents, which a heap may have.
pub record IsFormatted (extents : ℕ) (old new : Areas) : Type 0 where
  pub size : IsHeapSize extents
  pub new_is : new ≡ formats.formatted extents old

-- so it is where a format is made, as its clauses say
abbrev pub FormatMakes : Type 0
FormatMakes = (extents : ℕ) (old new : Areas) (result : Result (Unit {0}) FormatFault)
    → ((result ≡ Err faults.BadSlots) ↔ ¬ IsHeapSize extents) → OnOk result (new ≡ formats.formatted extents old) → OnOk result (IsFormatted extents old new)

-- a formatted disk holds an image of the empty history, and whatever a stop may leave of it is one
abbrev pub FormatStands : Type 0
FormatStands = (extents : ℕ) (old new : Areas) → IsFormatted extents old new
    → IsImageOf (new_roots extents) (image_of new) [] (λ relation. 0)
    × ((image : Image) → LeavesImage new image → IsImageOf (new_roots extents) image [] (λ relation. 0))

-- a store that is opened on a formatted disk, or on what a stop left of it, stands for the empty history
abbrev pub FormatOpens : Type 0
FormatOpens = (tells : Bool) (extents : ℕ) (old new : Areas) (disk : DiskState) (mark : ℕ) (v : LogStoreValue)
    → IsFormatted extents old new → LeavesImage new (image_of disk.areas) → AreSound disk.areas → Opens tells disk mark v → IsTrue tells
    → Stands tells v (opened_by 1024 [] (λ relation. 0))

-- so does a store that is created with its disk
abbrev pub CreateStands : Type 0
CreateStands =
    (tells : Bool) (old : DiskState) (mark extents : ℕ) (v : LogStoreValue) → IsHeapSize extents → AreSound v.disk.areas
    → Creates tells old mark extents v → IsTrue tells → Stands tells v (opened_by 1024 [] (λ relation. 0))

-- ---- a stop within a format

-- Of a format that the disk cut short a stop leaves a status area that it might have left before, or the first extent is empty. A header whose log begins
-- there, as that of a new store does, stands for the empty history. Of another header that a torn write might leave nothing is known.
abbrev pub FormatStops : Type 0
FormatStops =
    (old new : Areas) (image : Image) (roots : Roots) → formats.FormatStops old new → LeavesImage new image → ReadsRoots image.status roots
    → MayLeave old.status image.status ⊎ (root_of roots ≡ 1 → IsImageOf roots image [] (λ relation. 0))

-- the status area was on the disk before the format, and no header stood in front of it
pub record HadNoHeader (old : Areas) : Type 0 where
  pub settled : IsSettled old.status
  pub free : ¬ IsOccupied old.status.bytes

-- So where no header stood before, one that is read is what the format's write left: if its log begins in the first extent, the image stands for the empty
-- history.
abbrev pub StopsAreEmpty : Type 0
StopsAreEmpty =
    (old new : Areas) (image : Image) (roots : Roots) → formats.FormatStops old new → HadNoHeader old → LeavesImage new image
    → ReadsRoots image.status roots → root_of roots ≡ 1 → IsImageOf roots image [] (λ relation. 0)

-- and so does a store that is opened on what is left
abbrev pub StopOpens : Type 0
StopOpens =
    (tells : Bool) (old new : Areas) (disk : DiskState) (mark : ℕ) (v : LogStoreValue) → formats.FormatStops old new → HadNoHeader old
    → LeavesImage new (image_of disk.areas) → AreSound disk.areas → Opens tells disk mark v → IsTrue tells → root_of v.roots ≡ 1
    → Stands tells v (opened_by 1024 [] (λ relation. 0))
