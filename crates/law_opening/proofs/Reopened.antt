-- A store that is opened again.
use Rattle.std.proofs.Common.{◌≡◌, ◌⊎◌, inl, inr, ℕ, ◌+◌, Bool, IsTrue, List, [], ◌∷◌, ap, sym, subst, ◌∙◌, arith}
use Rattle.std.specs.List.{AllByRecursion}
use Rattle.disk.specs.Areas.{Areas, Image, AreSound, LeavesImage, LeavesNoMore, image_of}
use Rattle.disk.specs.Calls.{DiskState}
use Rattle.disk.proofs.Stops.{LeavesImage-read}
use Rattle.history.specs.Histories.{History}
use Rattle.history.specs.Fronts.{OnFront}
use Rattle.history.specs.Machine.{Machine, opened}
use Rattle.law_image.specs.Values.{Value}
use Rattle.status.specs.declared.header.Header.{Header}
use Rattle.status.specs.Header.{total}
use Rattle.law_layout.specs.Opening.{unread, unread_layout}
use Rattle.recovery.specs.Faults.{IsReadFault}
use Rattle.recovery.specs.Settling.{Settles}
use Rattle.recovery.specs.declared.fault.OpenFault.{OpenFault}
use Rattle.recovery.proofs.OneAnswer.{opening_only}
use Rattle.recovery.proofs.HistoryRead.{stands_opening}
use Rattle.store.specs.Values.{StoreValue}
use Rattle.store.specs.Opens.{Opens, OpenRefuses}
use Rattle.law_refinement.specs.OnDisk.{IsImageOf}
use Rattle.law_refinement.specs.Stands as standing
use Rattle.law_refinement.specs.Stands.{Stands, IsHeaderLeft, growth_of, may_have_grown}
use Rattle.law_opening.specs.Laws.{IsOfHeader, IsHeaderLeftBy, OpensAgain, LeavesFronts}
use Rattle.law_opening.proofs.Fronts.{front-says, front-is}
use Rattle.law_opening.proofs.Opened.{open-header, open-stands}

-- ---- a refusal

pub open-refuses : (tells : Bool) (old new : DiskState) (why : OpenFault) (header : Header) (h : History Value) (floors : ℕ → ℕ)
    → OpenRefuses tells old why new → IsTrue tells → IsImageOf header (image_of old.areas) h floors → IsReadFault why
    × (image_of new.areas ≡ image_of old.areas) × LeavesNoMore old.areas new.areas
open-refuses tells old new why header h floors refuses told image =
    let opening =
    stands_opening header (image_of old.areas) image.layout image.reading h floors image.laid image.held image.stands image.profile_built image.built in (
      opening_only header (image_of old.areas) (unread_layout image.layout) (unread image.reading) why opening (refuses.fault told),
      refuses.image told,
      refuses.left told,
    )

-- ---- closing

-- a header that a stop leaves of a store is the store's, with the piece in the making or without
pub left-by : (v : StoreValue) (m : Machine Value) (on : standing.LeavesFronts v m) (found : Header)
    → IsHeaderLeft on.header (may_have_grown (growth_of v.job)) found → IsHeaderLeftBy v found
left-by v m on found left = (on.header, record { profile = on.profile; slots = on.slots; pieces = on.pieces }, left)

-- what is left has such a header, and stands for a front
leaves-by : (v : StoreValue) (m : Machine Value) → standing.LeavesFronts v m → (image : Image) → LeavesImage v.disk.areas image
    → (header : Header) × IsHeaderLeftBy v header × OnFront (IsImageOf header image) m
leaves-by v m on image left = let l = on.leaves image left in (l.found, left-by v m on l.found l.is_found, l.front)

pub close-leaves : (tells : Bool) (v : StoreValue) (m : Machine Value) (disk : DiskState) → Stands tells v m → IsTrue tells → disk ≡ v.disk
    → LeavesFronts v disk.areas m
close-leaves tells v m disk stands told same =
    λ image left. leaves-by v m (stands.disk told) image (subst (λ (d : DiskState). LeavesImage d.areas image) same left)

pub closed-left : (v : StoreValue) (disk : DiskState) → disk ≡ v.disk → AreSound disk.areas → LeavesImage v.disk.areas (image_of disk.areas)
closed-left v disk same sound = subst (λ (d : DiskState). LeavesImage d.areas (image_of disk.areas)) same (LeavesImage-read disk.areas sound)

-- ---- opening again

pub reopen-stands : (tells : Bool) (v : StoreValue) (m : Machine Value) (disk : DiskState) (mark : ℕ) (again : StoreValue)
    → Stands tells v m → IsTrue tells → OpensAgain tells v disk mark again → OnFront (λ h floors. Stands tells again (opened h floors)) m
reopen-stands tells v m disk mark again stands told opens =
    let l = (stands.disk told).leaves (image_of disk.areas) opens.left in
    front-says (IsImageOf l.found (image_of disk.areas)) (λ h floors. Stands tells again (opened h floors)) m
    (λ h floors image. open-stands tells disk mark again l.found h floors opens.opens told opens.sound image)
    l.front

pub reopen-slots : (tells : Bool) (v : StoreValue) (m : Machine Value) (disk : DiskState) (mark : ℕ) (again : StoreValue)
    → Stands tells v m → IsTrue tells → OpensAgain tells v disk mark again
    → (again.log.slots ≡ v.log.slots) ⊎ (IsTrue (may_have_grown (growth_of v.job)) × (again.log.slots ≡ v.log.slots + 256))
reopen-slots tells v m disk mark again stands told opens =
    let on = stands.disk told in
    let l = on.leaves (image_of disk.areas) opens.left in
    let has : IsOfHeader again l.found =
    front-is (IsImageOf l.found (image_of disk.areas)) m (λ h floors image. open-header tells disk mark again l.found h floors opens.opens told image)
    l.front in
    by-header l.found has.slots on.header on.slots l.is_found
  where
    by-header : (found : Header) → again.log.slots ≡ total found → (header : Header) → v.log.slots ≡ total header
        → IsHeaderLeft header (may_have_grown (growth_of v.job)) found
        → (again.log.slots ≡ v.log.slots) ⊎ (IsTrue (may_have_grown (growth_of v.job)) × (again.log.slots ≡ v.log.slots + 256))
    by-header found has header own (inl same) = inl (has ∙ ap total same ∙ sym own)
    by-header found has header own (inr grew) = inr (grew.0, let more = ap total grew.1 in omega (arith, has, own, more))

pub reopen-refuses : (tells : Bool) (v : StoreValue) (m : Machine Value) (disk new : DiskState) (why : OpenFault)
    → Stands tells v m → IsTrue tells → LeavesImage v.disk.areas (image_of disk.areas) → OpenRefuses tells disk why new → IsReadFault why
    × (image_of new.areas ≡ image_of disk.areas)
reopen-refuses tells v m disk new why stands told left refuses =
    let l = (stands.disk told).leaves (image_of disk.areas) left in
    front-is (IsImageOf l.found (image_of disk.areas)) m
    (λ h floors image. let said = open-refuses tells disk new why l.found h floors refuses told image in (said.0, said.1))
    l.front

-- ---- a stop while it is opened, and a second stop

leaves-fronts : (tells : Bool) (v : StoreValue) (m : Machine Value) (middle new : Areas) → Stands tells v m → IsTrue tells
    → LeavesNoMore v.disk.areas middle → LeavesNoMore middle new → LeavesNoMore v.disk.areas new × LeavesFronts v new m
leaves-fronts tells v m middle new stands told first next = (
  record { each = λ image left. first.each image (next.each image left) },
  λ image left. leaves-by v m (stands.disk told) image (first.each image (next.each image left)),
)

pub opening-stops : (tells : Bool) (v : StoreValue) (m : Machine Value) (disk new : DiskState) (why : OpenFault)
    → Stands tells v m → IsTrue tells → LeavesNoMore v.disk.areas disk.areas → OpenRefuses tells disk why new
    → LeavesNoMore v.disk.areas new.areas × LeavesFronts v new.areas m
opening-stops tells v m disk new why stands told first refuses = leaves-fronts tells v m disk.areas new.areas stands told first (refuses.left told)

pub second-stops : (tells : Bool) (v : StoreValue) (m : Machine Value) (disk : DiskState) (mark : ℕ) (again : StoreValue)
    → Stands tells v m → IsTrue tells → LeavesNoMore v.disk.areas disk.areas → Opens tells disk mark again
    → LeavesNoMore v.disk.areas again.disk.areas × LeavesFronts v again.disk.areas m
second-stops tells v m disk mark again stands told first opens = leaves-fronts tells v m disk.areas again.disk.areas stands told first (opens.left told)

pub opening-moments : (tells : Bool) (v : StoreValue) (m : Machine Value) (disk new : DiskState) → Stands tells v m → IsTrue tells
    → LeavesNoMore v.disk.areas disk.areas → (settles : Settles tells disk new)
    → AllByRecursion (λ moment. LeavesNoMore v.disk.areas moment.areas × LeavesFronts v moment.areas m) settles.moments
opening-moments tells v m disk new stands told first settles = at_each settles.moments (settles.left told) where
  at_each : (moments : List DiskState) → AllByRecursion (λ moment. LeavesNoMore disk.areas moment.areas) moments
      → AllByRecursion (λ moment. LeavesNoMore v.disk.areas moment.areas × LeavesFronts v moment.areas m) moments
  at_each [] left = tt
  at_each (moment ∷ moments) left = (leaves-fronts tells v m disk.areas moment.areas stands told first left.0, at_each moments left.1)
