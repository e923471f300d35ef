-- A store that is opened again.
use Rattle.std.proofs.Common.{◌≡◌, ◌⊎◌, ℕ, Bool, IsTrue, List, [], ◌∷◌, take, inl, inr, ap, sym, subst, ◌∙◌}
use Rattle.std.specs.List.{AllByRecursion}
use Rattle.disk.specs.Areas.{Areas, Image, AreSound, LeavesImage, LeavesNoMore, image_of}
use Rattle.disk.specs.Calls.{DiskState}
use Rattle.disk.proofs.Stops.{LeavesImage-read}
use Rattle.history.specs.Fronts.{OnFront, with_group}
use Rattle.history.specs.Floors.{raised}
use Rattle.history.specs.Histories.{History}
use Rattle.history.specs.Machine.{Machine, opened_by}
use Rattle.law_image.specs.Values.{Value}
use Rattle.recovery.specs.Faults.{IsReadFault}
use Rattle.recovery.specs.Settling.{Settles}
use Rattle.recovery.specs.declared.fault.OpenFault.{OpenFault}
use Rattle.log_roots.specs.declared.roots.Roots.{Roots}
use Rattle.log_roots.proofs.Headers.{one_reading}
use Rattle.log_recovery.specs.Image.{IsReadFrom}
use Rattle.log_recovery.specs.Opening.{ReadsRoots}
use Rattle.law_log_opening.specs.Laws.{SaysNothing}
use Rattle.log_store.specs.Values.{LogStoreValue, IsInStep}
use Rattle.log_store.specs.Opens.{Opens, OpenRefuses}
use Rattle.law_log_store.specs.Standing.{IsImageOf}
use Rattle.law_log_store.proofs.Opening.{opens-any}
use Rattle.law_log_steps.proofs.Fronts as steps
use Rattle.law_log_queries.specs.Archive.{Stands}
use Rattle.law_log_queries.proofs.Opening.{stop-reopens}
use Rattle.law_log_opened.specs.Laws.{RecoversHeader, OpensAgain, LeavesFronts}
use Rattle.law_log_opened.proofs.Fronts.{WithFloor, each-front}

-- ---- a refusal

read-fault : (why : OpenFault) → SaysNothing why → IsReadFault why
read-fault why (inl device) = subst IsReadFault (sym device) tt
read-fault why (inr memory) = subst IsReadFault (sym memory) tt

pub open-refuses : (tells : Bool) (old new : DiskState) (why : OpenFault) (roots : Roots) (h : History Value) (floors : ℕ → ℕ)
    → OpenRefuses tells old why new → IsTrue tells → IsImageOf roots (image_of old.areas) h floors → IsReadFault why
    × (image_of new.areas ≡ image_of old.areas) × LeavesNoMore old.areas new.areas
open-refuses tells old new why roots h floors refuses told image =
    (read-fault why (opens-any tells old new why roots h floors told image refuses), refuses.image told, refuses.left told)

-- ---- headers

-- a store that is opened where these roots are read has them
open-roots : (tells : Bool) (disk : DiskState) (mark : ℕ) (v : LogStoreValue) (roots : Roots) → Opens tells disk mark v → IsTrue tells
    → ReadsRoots disk.areas.status.bytes roots → v.roots ≡ roots
open-roots tells disk mark v roots opens told reads =
    let read : IsReadFrom (image_of disk.areas) opens.recovered = opens.read told in
    ap (λ (x : LogStoreValue). x.roots) opens.new_is
    ∙ one_reading (take 512 disk.areas.status.bytes) opens.recovered.roots roots read.roots.has reads.has

-- so on an image of as many extents it has as many
pub open-size : (tells : Bool) (disk : DiskState) (mark : ℕ) (v : LogStoreValue) (roots : Roots) (h : History Value) (floors : ℕ → ℕ)
    → Opens tells disk mark v → IsTrue tells → IsImageOf roots (image_of disk.areas) h floors → v.roots.extents ≡ roots.extents
open-size tells disk mark v roots h floors opens told image =
    ap (λ (x : Roots). x.extents) (open-roots tells disk mark v image.read opens told image.status) ∙ image.size

pub image-header : (tells : Bool) (roots : Roots) (image : Image) (h : History Value) (floors : ℕ → ℕ) → IsTrue tells → IsImageOf roots image h floors
    → RecoversHeader tells image roots
image-header tells roots image h floors told is = record {
  read = is.read;
  reads = is.status;
  size = is.size;
  recovered =
      λ disk mark again same opens. open-roots tells disk mark again is.read opens told
      (subst (λ (i : Image). ReadsRoots i.status is.read) (sym same) is.status);
}

-- ---- closing

-- what a stop may leave of a store stands for a front
pub leaves-front : (tells : Bool) (v : LogStoreValue) (m : Machine Value) → IsInStep v → Stands tells v m → IsTrue tells → LeavesFronts v v.disk.areas m
leaves-front tells v m step stands told = λ image left. steps.leaves-fronts tells v m image told step stands.store left

pub close-leaves : (tells : Bool) (v : LogStoreValue) (m : Machine Value) (disk : DiskState) → IsInStep v → Stands tells v m → IsTrue tells → disk ≡ v.disk
    → LeavesFronts v disk.areas m
close-leaves tells v m disk step stands told same =
    λ image left. leaves-front tells v m step stands told image (subst (λ (d : DiskState). LeavesImage d.areas image) same left)

pub closed-left : (v : LogStoreValue) (disk : DiskState) → disk ≡ v.disk → AreSound disk.areas → LeavesImage v.disk.areas (image_of disk.areas)
closed-left v disk same sound = subst (λ (d : DiskState). LeavesImage d.areas (image_of disk.areas)) same (LeavesImage-read disk.areas sound)

-- ---- opening again

pub reopen-stands : (tells : Bool) (v : LogStoreValue) (m : Machine Value) (disk : DiskState) (mark : ℕ) (again : LogStoreValue)
    → IsInStep v → Stands tells v m → IsTrue tells → OpensAgain tells v disk mark again → OnFront (λ h floors. Stands tells again (opened_by 1024 h floors)) m
reopen-stands tells v m disk mark again step stands told opens =
    stop-reopens tells v m disk mark again told step stands.store opens.left opens.sound opens.opens

-- what is left is an image of a front
front-image : (tells : Bool) (v : LogStoreValue) (m : Machine Value) (image : Image) → IsInStep v → Stands tells v m → IsTrue tells
    → LeavesImage v.disk.areas image → (R : Type 0) → ((h : History Value) (floors : ℕ → ℕ) → IsImageOf v.roots image h floors → R) → R
front-image tells v m image step stands told left R say =
    by-front (each-front (IsImageOf v.roots image) m (leaves-front tells v m step stands told image left))
  where
    by-front : IsImageOf v.roots image m.published m.floors ⊎ IsImageOf v.roots image (with_group m) m.floors ⊎ WithFloor (IsImageOf v.roots image) m → R
    by-front (inl old) = say m.published m.floors old
    by-front (inr (inl grouped)) = say (with_group m) m.floors grouped
    by-front (inr (inr floor)) = say m.published (raised (floor.0).scope (floor.0).floor m.floors) floor.2

pub reopen-roots : (tells : Bool) (v : LogStoreValue) (m : Machine Value) (disk : DiskState) (mark : ℕ) (again : LogStoreValue)
    → IsInStep v → Stands tells v m → IsTrue tells → OpensAgain tells v disk mark again → again.roots.extents ≡ v.roots.extents
reopen-roots tells v m disk mark again step stands told opens =
    front-image tells v m (image_of disk.areas) step stands told opens.left (again.roots.extents ≡ v.roots.extents)
    (λ h floors image. open-size tells disk mark again v.roots h floors opens.opens told image)

pub reopen-refuses : (tells : Bool) (v : LogStoreValue) (m : Machine Value) (disk new : DiskState) (why : OpenFault)
    → IsInStep v → Stands tells v m → IsTrue tells → LeavesImage v.disk.areas (image_of disk.areas) → OpenRefuses tells disk why new → IsReadFault why
    × (image_of new.areas ≡ image_of disk.areas)
reopen-refuses tells v m disk new why step stands told left refuses =
    front-image tells v m (image_of disk.areas) step stands told left (IsReadFault why × (image_of new.areas ≡ image_of disk.areas))
    (λ h floors image. let said = open-refuses tells disk new why v.roots h floors refuses told image in (said.0, said.1))

-- ---- a stop while it is opened, and a second stop

leaves-fronts : (tells : Bool) (v : LogStoreValue) (m : Machine Value) (middle new : Areas) → IsInStep v → Stands tells v m → IsTrue tells
    → LeavesNoMore v.disk.areas middle → LeavesNoMore middle new → LeavesNoMore v.disk.areas new × LeavesFronts v new m
leaves-fronts tells v m middle new step stands told first next = (
  record { each = λ image left. first.each image (next.each image left) },
  λ image left. leaves-front tells v m step stands told image (first.each image (next.each image left)),
)

pub opening-stops : (tells : Bool) (v : LogStoreValue) (m : Machine Value) (disk new : DiskState) (why : OpenFault)
    → IsInStep v → Stands tells v m → IsTrue tells → LeavesNoMore v.disk.areas disk.areas → OpenRefuses tells disk why new
    → LeavesNoMore v.disk.areas new.areas × LeavesFronts v new.areas m
opening-stops tells v m disk new why step stands told first refuses =
    leaves-fronts tells v m disk.areas new.areas step stands told first (refuses.left told)

pub second-stops : (tells : Bool) (v : LogStoreValue) (m : Machine Value) (disk : DiskState) (mark : ℕ) (again : LogStoreValue)
    → IsInStep v → Stands tells v m → IsTrue tells → LeavesNoMore v.disk.areas disk.areas → Opens tells disk mark again
    → LeavesNoMore v.disk.areas again.disk.areas × LeavesFronts v again.disk.areas m
second-stops tells v m disk mark again step stands told first opens =
    leaves-fronts tells v m disk.areas again.disk.areas step stands told first (opens.left told)

pub opening-moments : (tells : Bool) (v : LogStoreValue) (m : Machine Value) (disk new : DiskState) → IsInStep v → Stands tells v m → IsTrue tells
    → LeavesNoMore v.disk.areas disk.areas → (settles : Settles tells disk new)
    → AllByRecursion (λ moment. LeavesNoMore v.disk.areas moment.areas × LeavesFronts v moment.areas m) settles.moments
opening-moments tells v m disk new step stands told first settles = at_each settles.moments (settles.left told) where
  at_each : (moments : List DiskState) → AllByRecursion (λ moment. LeavesNoMore disk.areas moment.areas) moments
      → AllByRecursion (λ moment. LeavesNoMore v.disk.areas moment.areas × LeavesFronts v moment.areas m) moments
  at_each [] left = tt
  at_each (moment ∷ moments) left = (leaves-fronts tells v m disk.areas moment.areas step stands told first left.0, at_each moments left.1)
