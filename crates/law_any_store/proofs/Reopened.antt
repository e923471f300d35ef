-- What a stop leaves of a store, and a store that is opened again, in either layout.
use Rattle.std.proofs.Common.{◌≡◌, ℕ, Bool, IsTrue, List, [], ◌∷◌, inl, inr, refl, arith, ap, sym, subst}
use Rattle.std.specs.List.{AllByRecursion}
use Rattle.disk.specs.Areas.{Areas, AreSound, LeavesImage, LeavesNoMore, image_of}
use Rattle.disk.specs.Calls.{DiskState}
use Rattle.disk.proofs.Stops.{LeavesImage-read}
use Rattle.history.specs.Fronts.{OnFront}
use Rattle.history.specs.Histories.{History}
use Rattle.history.specs.Machine.{Machine}
use Rattle.law_image.specs.Values.{Value}
use Rattle.recovery.specs.Faults.{IsReadFault}
use Rattle.recovery.specs.Settling.{Settles, CountsMore, CountsAtMost}
use Rattle.recovery.specs.declared.fault.OpenFault.{OpenFault}
use Rattle.any_store.specs.declared.engine.Engine.TheVariants.{Slots, Log}
use Rattle.any_store.specs.Values.{StoreValue, disk_of}
use Rattle.any_store.specs.Opens.{Opens, OpenRefuses, IsUnread}
use Rattle.law_refinement.specs.OnDisk as slot_images
use Rattle.law_log_store.specs.Standing as log_images
use Rattle.law_opening.proofs.Fronts.{front-says, front-is}
use Rattle.law_opening.proofs.Reopened as slot_reopened
use Rattle.law_log_opening.specs.Laws.{SaysNothing}
use Rattle.law_log_store.proofs.Opening.{opens-any}
use Rattle.law_log_steps.proofs.Fronts as log_fronts
use Rattle.law_any_store.specs.Standing.{Stands, AnyHeader, IsImageOf, opened_as, opened_in}
use Rattle.law_any_store.specs.Opened.{IsOfHeader, IsHeaderLeftBy, LeavesFronts, OpensAgain}
use Rattle.law_any_store.proofs.Opened.{open-stands, open-header, image-slots, image-log, slots-no_log}

-- ---- a refusal

-- what says nothing of the image is of reading alone
read-fault : (why : OpenFault) → SaysNothing why → IsReadFault why
read-fault why (inl device) = subst IsReadFault (sym device) tt
read-fault why (inr memory) = subst IsReadFault (sym memory) tt

-- where the header can't be read nothing has changed
unread-left : (old new : DiskState) (why : OpenFault) → IsUnread old why new → LeavesNoMore old.areas new.areas
unread-left old new why unread =
    subst (λ (d : DiskState). LeavesNoMore old.areas d.areas) (sym unread.1) (record { each = λ image left. left })

unread-refuses : (old new : DiskState) (why : OpenFault) → IsUnread old why new → IsReadFault why
    × (image_of new.areas ≡ image_of old.areas) × LeavesNoMore old.areas new.areas
unread-refuses old new why unread =
    (subst IsReadFault (sym unread.0) tt, ap (λ (d : DiskState). image_of d.areas) unread.1, unread-left old new why unread)

pub open-refuses : (tells : Bool) (old new : DiskState) (why : OpenFault) (header : AnyHeader) (h : History Value) (floors : ℕ → ℕ)
    → OpenRefuses tells old why new → IsTrue tells → IsImageOf header (image_of old.areas) h floors → IsReadFault why
    × (image_of new.areas ≡ image_of old.areas) × LeavesNoMore old.areas new.areas
open-refuses tells old new why (Slots header) h floors (inl refuses) told image =
    slot_reopened.open-refuses tells old new why header h floors refuses.1 told image
open-refuses tells old new why (Slots header) h floors (inr (inr unread)) told image = unread-refuses old new why unread
open-refuses tells old new why (Slots header) h floors (inr (inl refuses)) told image =
    absurd (slots-no_log (image_of old.areas).status header (image-slots header (image_of old.areas) h floors image) (refuses.0 told))
open-refuses tells old new why (Log roots) h floors (inl refuses) told image =
    absurd (refuses.0 told (image-log roots (image_of old.areas) h floors image))
open-refuses tells old new why (Log roots) h floors (inr (inr unread)) told image = unread-refuses old new why unread
open-refuses tells old new why (Log roots) h floors (inr (inl refuses)) told image =
    let of_log = refuses.1 in
    (read-fault why (opens-any tells old new why roots h floors told image of_log), of_log.image told, of_log.left told)

-- ---- closing

-- what is left has such a header, and stands for a front
pub leaves-by : (tells : Bool) (v : StoreValue) (m : Machine Value) → Stands tells v m → IsTrue tells → LeavesFronts v (disk_of v).areas m
leaves-by tells (Slots s) m stands told image left =
    let found = slot_reopened.close-leaves tells s m s.disk stands told refl image left in
    (Slots found.0, found.1, front-says (slot_images.IsImageOf found.0 image) (IsImageOf (Slots found.0) image) m (λ h floors is. is) found.2)
leaves-by tells (Log l) m stands told image left =
    let store = (stands.1).store in (
      Log l.roots,
      refl,
      front-says (log_images.IsImageOf l.roots image) (IsImageOf (Log l.roots) image) m (λ h floors is. is)
          (log_fronts.leaves-fronts tells l m image told stands.0 store left),
    )

pub close-leaves : (tells : Bool) (v : StoreValue) (m : Machine Value) (disk : DiskState) → Stands tells v m → IsTrue tells → disk ≡ disk_of v
    → LeavesFronts v disk.areas m
close-leaves tells v m disk stands told same =
    λ image left. leaves-by tells v m stands told image (subst (λ (d : DiskState). LeavesImage d.areas image) same left)

pub closed-left : (v : StoreValue) (disk : DiskState) → disk ≡ disk_of v → AreSound disk.areas → LeavesImage (disk_of v).areas (image_of disk.areas)
closed-left v disk same sound = subst (λ (d : DiskState). LeavesImage d.areas (image_of disk.areas)) same (LeavesImage-read disk.areas sound)

-- ---- opening again

-- a store that is opened on what a stop left is opened as one with its header is
left-opened : (v : StoreValue) (header : AnyHeader) (h : History Value) (floors : ℕ → ℕ) → IsHeaderLeftBy v header
    → opened_as header h floors ≡ opened_in v h floors
left-opened (Slots s) (Slots header) h floors left = refl
left-opened (Slots s) (Log roots) h floors left = absurd left
left-opened (Log l) (Slots header) h floors left = absurd left
left-opened (Log l) (Log roots) h floors left = refl

pub reopen-stands : (tells : Bool) (v : StoreValue) (m : Machine Value) (disk : DiskState) (mark : ℕ) (again : StoreValue)
    → Stands tells v m → IsTrue tells → OpensAgain tells v disk mark again → OnFront (λ h floors. Stands tells again (opened_in v h floors)) m
reopen-stands tells v m disk mark again stands told opens =
    let l = leaves-by tells v m stands told (image_of disk.areas) opens.left in
    front-says (IsImageOf l.0 (image_of disk.areas)) (λ h floors. Stands tells again (opened_in v h floors)) m
    (λ h floors image. subst (Stands tells again) (left-opened v l.0 h floors l.1)
    (open-stands tells disk mark again l.0 h floors opens.opens told opens.sound image))
    l.2

pub reopen-header : (tells : Bool) (v : StoreValue) (m : Machine Value) (disk : DiskState) (mark : ℕ) (again : StoreValue)
    → Stands tells v m → IsTrue tells → OpensAgain tells v disk mark again → (header : AnyHeader) × IsHeaderLeftBy v header × IsOfHeader again header
reopen-header tells v m disk mark again stands told opens =
    let l = leaves-by tells v m stands told (image_of disk.areas) opens.left in (
      l.0,
      l.1,
      front-is (IsImageOf l.0 (image_of disk.areas)) m (λ h floors image. open-header tells disk mark again l.0 h floors opens.opens told image) l.2,
    )

pub reopen-refuses : (tells : Bool) (v : StoreValue) (m : Machine Value) (disk new : DiskState) (why : OpenFault)
    → Stands tells v m → IsTrue tells → LeavesImage (disk_of v).areas (image_of disk.areas) → OpenRefuses tells disk why new → IsReadFault why
    × (image_of new.areas ≡ image_of disk.areas)
reopen-refuses tells v m disk new why stands told left refuses =
    let l = leaves-by tells v m stands told (image_of disk.areas) left in
    front-is (IsImageOf l.0 (image_of disk.areas)) m
    (λ h floors image. let said = open-refuses tells disk new why l.0 h floors refuses told image in (said.0, said.1))
    l.2

-- ---- a stop while it is opened, and a second stop

leaves-fronts : (tells : Bool) (v : StoreValue) (m : Machine Value) (middle new : Areas) → Stands tells v m → IsTrue tells
    → LeavesNoMore (disk_of v).areas middle → LeavesNoMore middle new → LeavesNoMore (disk_of v).areas new × LeavesFronts v new m
leaves-fronts tells v m middle new stands told first next = (
  record { each = λ image left. first.each image (next.each image left) },
  λ image left. leaves-by tells v m stands told image (first.each image (next.each image left)),
)

-- a refusal leaves no more than there was
pub refuses-left : (tells : Bool) (old new : DiskState) (why : OpenFault) → OpenRefuses tells old why new → IsTrue tells → LeavesNoMore old.areas new.areas
refuses-left tells old new why (inl refuses) told = let of_slots = refuses.1 in of_slots.left told
refuses-left tells old new why (inr (inl refuses)) told = let of_log = refuses.1 in of_log.left told
refuses-left tells old new why (inr (inr unread)) told = unread-left old new why unread

-- it makes at most three syncs
pub refuses-made : (tells : Bool) (old new : DiskState) (why : OpenFault) → OpenRefuses tells old why new → CountsAtMost 3 old new
refuses-made tells old new why (inl refuses) = let of_slots = refuses.1 in of_slots.most
refuses-made tells old new why (inr (inl refuses)) = let of_log = refuses.1 in of_log.most
refuses-made tells old new why (inr (inr unread)) = let made = ap (λ (d : DiskState). d.made) unread.1 in omega (arith, made)

pub refuses-moments : (tells : Bool) (old new : DiskState) (why : OpenFault) → OpenRefuses tells old why new → Settles tells old new
refuses-moments tells old new why (inl refuses) = let of_slots = refuses.1 in of_slots.moments
refuses-moments tells old new why (inr (inl refuses)) = let of_log = refuses.1 in of_log.moments
refuses-moments tells old new why (inr (inr unread)) =
    subst (λ (d : DiskState). Settles tells old d) (sym unread.1) (record { moments = []; syncs = tt; reads = refl; left = λ told. tt })

-- so does an opening, which makes three
pub opens-made : (tells : Bool) (old : DiskState) (mark : ℕ) (v : StoreValue) → Opens tells old mark v → CountsMore 3 old (disk_of v)
opens-made tells old mark (Slots s) opens = (opens.engine).made
opens-made tells old mark (Log l) opens = (opens.engine).made

pub opens-moments : (tells : Bool) (old : DiskState) (mark : ℕ) (v : StoreValue) → Opens tells old mark v → Settles tells old (disk_of v)
opens-moments tells old mark (Slots s) opens = (opens.engine).moments
opens-moments tells old mark (Log l) opens = (opens.engine).moments

pub opens-left : (tells : Bool) (old : DiskState) (mark : ℕ) (v : StoreValue) → Opens tells old mark v → IsTrue tells → LeavesNoMore old.areas (disk_of v).areas
opens-left tells old mark (Slots s) opens told = (opens.engine).left told
opens-left tells old mark (Log l) opens told = (opens.engine).left told

pub opening-stops : (tells : Bool) (v : StoreValue) (m : Machine Value) (disk new : DiskState) (why : OpenFault)
    → Stands tells v m → IsTrue tells → LeavesNoMore (disk_of v).areas disk.areas → OpenRefuses tells disk why new
    → LeavesNoMore (disk_of v).areas new.areas × LeavesFronts v new.areas m
opening-stops tells v m disk new why stands told first refuses =
    leaves-fronts tells v m disk.areas new.areas stands told first (refuses-left tells disk new why refuses told)

pub second-stops : (tells : Bool) (v : StoreValue) (m : Machine Value) (disk : DiskState) (mark : ℕ) (again : StoreValue)
    → Stands tells v m → IsTrue tells → LeavesNoMore (disk_of v).areas disk.areas → Opens tells disk mark again
    → LeavesNoMore (disk_of v).areas (disk_of again).areas × LeavesFronts v (disk_of again).areas m
second-stops tells v m disk mark again stands told first opens =
    leaves-fronts tells v m disk.areas (disk_of again).areas stands told first (opens-left tells disk mark again opens told)

pub opening-moments : (tells : Bool) (v : StoreValue) (m : Machine Value) (disk new : DiskState) → Stands tells v m → IsTrue tells
    → LeavesNoMore (disk_of v).areas disk.areas → (settles : Settles tells disk new)
    → AllByRecursion (λ moment. LeavesNoMore (disk_of v).areas moment.areas × LeavesFronts v moment.areas m) settles.moments
opening-moments tells v m disk new stands told first settles = at_each settles.moments (settles.left told) where
  at_each : (moments : List DiskState) → AllByRecursion (λ moment. LeavesNoMore disk.areas moment.areas) moments
      → AllByRecursion (λ moment. LeavesNoMore (disk_of v).areas moment.areas × LeavesFronts v moment.areas m) moments
  at_each [] left = tt
  at_each (moment ∷ moments) left = (leaves-fronts tells v m disk.areas moment.areas stands told first left.0, at_each moments left.1)
