-- What opening a store whose log lies in the heap, and closing it, stand for.
use Rattle.std.specs.Prelude.{ℕ, ◌≡◌, Bool, IsTrue}
use Rattle.std.specs.List.{AllByRecursion}
use Rattle.disk.specs.Areas.{Areas, Image, AreSound, LeavesImage, LeavesNoMore, image_of}
use Rattle.disk.specs.Calls.{DiskState}
use Rattle.history.specs.Fronts.{OnFront}
use Rattle.history.specs.Histories.{History}
use Rattle.history.specs.Machine.{Machine, opened_by}
use Rattle.law_image.specs.Values.{Value}
use Rattle.recovery.specs.Faults.{IsReadFault}
use Rattle.recovery.specs.Settling.{Settles}
use Rattle.recovery.specs.declared.fault.OpenFault.{OpenFault}
use Rattle.log_roots.specs.declared.roots.Roots.{Roots}
use Rattle.log_recovery.specs.Opening.{ReadsRoots}
use Rattle.log_store.specs.Values.{LogStoreValue, IsInStep}
use Rattle.log_store.specs.Opens.{Opens, OpenRefuses}
use Rattle.law_log_store.specs.Standing.{IsImageOf}
use Rattle.law_log_queries.specs.Archive.{Stands}

-- ---- opening

-- Where opening an image that stands for a history is refused, the device or memory gave out, and the disk still holds the image. A stop then leaves nothing
-- that it might not have left before.
abbrev pub OpenRefusesFor : Type 0
OpenRefusesFor = (tells : Bool) (old new : DiskState) (why : OpenFault) (roots : Roots) (h : History Value) (floors : ℕ → ℕ)
    → OpenRefuses tells old why new → IsTrue tells → IsImageOf roots (image_of old.areas) h floors → IsReadFault why
    × (image_of new.areas ≡ image_of old.areas) × LeavesNoMore old.areas new.areas

-- ---- headers

-- An image has a header of as many extents as these roots have, and so has every store that is opened on it: the header that is read there.
pub record RecoversHeader (tells : Bool) (image : Image) (roots : Roots) : Type 0 where
  pub read : Roots
  pub reads : ReadsRoots image.status read
  pub size : read.extents ≡ roots.extents
  pub recovered : (disk : DiskState) (mark : ℕ) (again : LogStoreValue) → image_of disk.areas ≡ image → Opens tells disk mark again → again.roots ≡ read

-- an image that stands for a history has such a header
abbrev pub ImageHasHeader : Type 0
ImageHasHeader =
    (tells : Bool) (roots : Roots) (image : Image) (h : History Value) (floors : ℕ → ℕ) → IsTrue tells → IsImageOf roots image h floors
    → RecoversHeader tells image roots

-- ---- closing, and opening again

-- whatever a stop may leave of these areas of a store has a header of as many extents, and stands for a front of the commit order
abbrev pub LeavesFronts : LogStoreValue → Areas → Machine Value → Type 0
LeavesFronts v areas m = (image : Image) → LeavesImage areas image → OnFront (IsImageOf v.roots image) m

-- so it is of the disk that closing hands back
abbrev pub CloseLeaves : Type 0
CloseLeaves =
    (tells : Bool) (v : LogStoreValue) (m : Machine Value) (disk : DiskState) → IsInStep v → Stands tells v m → IsTrue tells → disk ≡ v.disk
    → LeavesFronts v disk.areas m

-- A store is opened again: the disk holds what a stop may have left of it.
pub record OpensAgain (tells : Bool) (v : LogStoreValue) (disk : DiskState) (mark : ℕ) (again : LogStoreValue) : Type 0 where
  pub left : LeavesImage v.disk.areas (image_of disk.areas)
  pub sound : AreSound disk.areas
  pub opens : Opens tells disk mark again

-- It stands for a front of the commit order: all that was published, and of the group in the writing all or nothing.
abbrev pub ReopenStands : Type 0
ReopenStands = (tells : Bool) (v : LogStoreValue) (m : Machine Value) (disk : DiskState) (mark : ℕ) (again : LogStoreValue)
    → IsInStep v → Stands tells v m → IsTrue tells → OpensAgain tells v disk mark again → OnFront (λ h floors. Stands tells again (opened_by 1024 h floors)) m

-- It has as many extents as there were.
abbrev pub ReopenHasRoots : Type 0
ReopenHasRoots = (tells : Bool) (v : LogStoreValue) (m : Machine Value) (disk : DiskState) (mark : ℕ) (again : LogStoreValue)
    → IsInStep v → Stands tells v m → IsTrue tells → OpensAgain tells v disk mark again → again.roots.extents ≡ v.roots.extents

-- Where that is refused, the device or memory gave out, and the disk still holds what the stop left.
abbrev pub ReopenRefuses : Type 0
ReopenRefuses = (tells : Bool) (v : LogStoreValue) (m : Machine Value) (disk new : DiskState) (why : OpenFault)
    → IsInStep v → Stands tells v m → IsTrue tells → LeavesImage v.disk.areas (image_of disk.areas) → OpenRefuses tells disk why new → IsReadFault why
    × (image_of new.areas ≡ image_of disk.areas)

-- A stop while the store is opened again: where opening was refused, at whichever of its calls, it leaves nothing that it might not have left before, so a
-- front of the commit order as that did.
abbrev pub OpeningStops : Type 0
OpeningStops = (tells : Bool) (v : LogStoreValue) (m : Machine Value) (disk new : DiskState) (why : OpenFault)
    → IsInStep v → Stands tells v m → IsTrue tells → LeavesNoMore v.disk.areas disk.areas → OpenRefuses tells disk why new
    → LeavesNoMore v.disk.areas new.areas × LeavesFronts v new.areas m

-- A second stop, once it was opened again: so it is of the opened store.
abbrev pub SecondStops : Type 0
SecondStops = (tells : Bool) (v : LogStoreValue) (m : Machine Value) (disk : DiskState) (mark : ℕ) (again : LogStoreValue)
    → IsInStep v → Stands tells v m → IsTrue tells → LeavesNoMore v.disk.areas disk.areas → Opens tells disk mark again
    → LeavesNoMore v.disk.areas again.disk.areas × LeavesFronts v again.disk.areas m

-- At every moment while it is opened again, and whether that is refused or not, a stop leaves nothing that the first might not have left, so a front of the
-- commit order too.
abbrev pub OpeningMoments : Type 0
OpeningMoments =
    (tells : Bool) (v : LogStoreValue) (m : Machine Value) (disk new : DiskState) → IsInStep v → Stands tells v m → IsTrue tells
    → LeavesNoMore v.disk.areas disk.areas → (settles : Settles tells disk new)
    → AllByRecursion (λ moment. LeavesNoMore v.disk.areas moment.areas × LeavesFronts v moment.areas m) settles.moments

-- the disk that a closed store hands back holds what a stop may have left, so it may be opened again
abbrev pub ClosedIsLeft : Type 0
ClosedIsLeft = (v : LogStoreValue) (disk : DiskState) → disk ≡ v.disk → AreSound disk.areas → LeavesImage v.disk.areas (image_of disk.areas)
