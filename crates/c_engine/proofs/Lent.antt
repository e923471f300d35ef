-- An opening of lent bytes is not refused by their disk: they refuse no read, and it makes too few calls to come to the greatest count.
use Rattle.std.proofs.Common.{◌≡◌, ℕ, ◌+◌, ◌≤◌, true, List, [], ◌∷◌, Option, None, Some, inl, inr, refl, ap, sym, ◌∙◌, arith}
use Rattle.std.specs.Prelude.{Result, Ok, Err}
use Rattle.disk.specs.Areas.{Areas, Image, image_of, settled_on, area_of, with_area, synced, while_written}
use Rattle.disk.specs.Calls.{DiskState, Syncs, counted, fresh_on}
use Rattle.disk.specs.declared.area.Area.{Area}
use Rattle.disk.specs.declared.area.Area.TheVariants.{Status, Heap, Archive}
use Rattle.disk.specs.declared.area.DeviceFault.{DeviceFault}
use Rattle.recovery.specs.Settling.{Settles, AreSyncs, CountsAtMost, last_moment}
use Rattle.recovery.specs.declared.fault.OpenFault.{OpenFault}
use Rattle.recovery.specs.declared.fault.OpenFault.TheVariants.{Device, NoMemory}
use Rattle.any_store.specs.Calls.{last, floors}
use Rattle.any_store.specs.Opens.{Opens, OpenRefuses}
use Rattle.any_store.specs.Values.{StoreValue, OfEngine, disk_of, with_disk}
use Rattle.any_store.specs.declared.engine.Engine.TheVariants.{Slots, Log}
use Rattle.log_store.specs.Formats.{HasLogHeader}
use Rattle.c_engine.specs.Engines.{IsImageFault}
use Rattle.c_engine.specs.RelayState.{slices_state, lent, torn_at}
use Rattle.c_engine.specs.declared.slice_disk.Range.{Range}
use Rattle.c_engine.specs.declared.slice_disk.SliceDisk.{SliceDisk}

same_synced : (area : Area) (image : Image) → with_area area (synced (area_of (settled_on image) area)) (settled_on image) ≡ settled_on image
same_synced Status image = refl
same_synced Heap image = refl
same_synced Archive image = refl

after_sync : (area : Area) (image : Image) (answer : Result (Unit {0}) DeviceFault) (old new : Areas) → old ≡ settled_on image → Syncs area answer old new
    → new ≡ settled_on image
after_sync area image (Ok done) old new is syncs =
    syncs.synced ∙ ap (λ (a : Areas). with_area area (synced (area_of a area)) a) is ∙ same_synced area image
after_sync area image (Err why) old new is syncs = syncs.same ∙ is

-- syncs leave areas that are settled as they are
settled_still : (image : Image) (areas : List Area) (old : DiskState) (moments : List DiskState) → old.areas ≡ settled_on image
    → AreSyncs true areas old moments
    → (last_moment old moments).areas ≡ settled_on image
settled_still image areas old [] is syncs = is
settled_still image [] old (m ∷ ms) is syncs = absurd syncs
settled_still image (a ∷ later) old (m ∷ ms) is syncs =
    settled_still image later m ms (after_sync a image syncs.0.answer old.areas m.areas is (syncs.0.areas refl)) syncs.1

torn_differs : (area : Area) (at n : ℕ) (own image : Image) → while_written area at n (settled_on own) ≡ settled_on image → ⊥
torn_differs Status at n own image is = let loose : ◌≡◌ {A = List (ℕ × ℕ)} ((at, n) ∷ []) [] = ap (λ (a : Areas). a.status.loose) is in cc
torn_differs Heap at n own image is = let loose : ◌≡◌ {A = List (ℕ × ℕ)} ((at, n) ∷ []) [] = ap (λ (a : Areas). a.heap.loose) is in cc
torn_differs Archive at n own image is = let loose : ◌≡◌ {A = List (ℕ × ℕ)} ((at, n) ∷ []) [] = ap (λ (a : Areas). a.archive.loose) is in cc

-- where the areas are settled no write was refused
not_torn : (torn : Option Range) (own image : Image) → torn_at torn (settled_on own) ≡ settled_on image → torn ≡ None
not_torn None own image is = refl
not_torn (Some range) own image is = absurd (torn_differs range.area range.at range.len own image is)

-- after at most three syncs and no write no call was refused
settled_served : (d : SliceDisk) (image : Image) → (slices_state d).areas ≡ settled_on image → d.made ≤ 3 → d.refused ≡ counted 0 → ⊥
settled_served d image areas few one =
    let none : d.refused ≡ 0 = d.served (not_torn d.torn (lent d) image areas) (omega (arith, few)) in
    omega (arith, none, one)

syncs_served : (d : SliceDisk) (image : Image) → Settles true (fresh_on image) (slices_state d) → CountsAtMost 3 (fresh_on image) (slices_state d)
    → d.refused ≡ counted 0 → ⊥
syncs_served d image settles most one =
    let areas : (slices_state d).areas ≡ settled_on image =
    ap (λ (s : DiskState). s.areas) settles.reads
    ∙ settled_still image (Status ∷ Heap ∷ Archive ∷ []) (fresh_on image) settles.moments refl settles.syncs in
    settled_served d image areas (omega (arith, most)) one

pub no_device : (d : SliceDisk) (image : Image) → OpenRefuses true (fresh_on image) Device (slices_state d) → ⊥
no_device d image (inl slots) = syncs_served d image slots.1.moments slots.1.most slots.1.refused
no_device d image (inr (inl log)) = syncs_served d image log.1.moments log.1.most log.1.refused
no_device d image (inr (inr unread)) =
    let made : d.made ≡ 0 = ap (λ (s : DiskState). s.made) unread.1 in
    settled_served d image (ap (λ (s : DiskState). s.areas) unread.1) (omega (arith, made)) (ap (λ (s : DiskState). s.refused) unread.1)

-- why the image does not open
pub image_fault : (d : SliceDisk) (image : Image) (why : OpenFault) → OpenRefuses true (fresh_on image) why (slices_state d) → IsImageFault image why
image_fault d image why (inl slots) = inl (slots.0 refl, slots.1.fault refl)
image_fault d image why (inr (inl log)) = inr (log.0 refl, log.1.fault refl)
image_fault d image why (inr (inr unread)) =
    absurd (no_device d image (inr (inr (refl, unread.1))))

-- memory may be short in either layout
pub short_of_memory : (image : Image) (v : StoreValue) → OfEngine (λ s. ¬ HasLogHeader image.status) (λ l. HasLogHeader image.status) v
    → IsImageFault image NoMemory
short_of_memory image (Slots s) none = inl (none, tt)
short_of_memory image (Log l) has = inr (has, tt)

-- the store that is opened from lent bytes has them settled
opened_settled : (image : Image) (mark : ℕ) (v : StoreValue) → Opens true (fresh_on image) mark v → (disk_of v).areas ≡ settled_on image
opened_settled image mark (Slots s) opens = opens.engine.settled refl
opened_settled image mark (Log l) opens = opens.engine.settled refl

-- and the noted areas begin as it has them
pub noted_afresh : (image : Image) (mark : ℕ) (v : StoreValue) (seen : DiskState) → Opens true (fresh_on image) mark v → seen ≡ disk_of v
    → fresh_on (image_of seen.areas) ≡ record { areas = (disk_of v).areas; made = 0; refused = 0 }
noted_afresh image mark v seen opens is =
    let settled : (disk_of v).areas ≡ settled_on image = opened_settled image mark v opens in
    ap (λ (d : DiskState). fresh_on (image_of d.areas)) is
    ∙ ap (λ (a : Areas). fresh_on (image_of a)) settled
    ∙ ap (λ (a : Areas). record { areas = a; made = 0; refused = 0 }) (sym settled)

-- the store's times do not depend on its disk
pub last_over : (v : StoreValue) (disk : DiskState) → last (with_disk v disk) ≡ last v
last_over (Slots s) disk = refl
last_over (Log l) disk = refl

pub floors_over : (v : StoreValue) (disk : DiskState) → floors (with_disk v disk) ≡ floors v
floors_over (Slots s) disk = refl
floors_over (Log l) disk = refl
