-- What a job makes, beside a group.
use Rattle.std.proofs.Common.{◌∙◌, ◌≡◌, ◌≢◌, ℕ, zero, suc, ◌<◌, ◌≤◌, nat_lt, Bool, true, false, cond, List, [], ◌∷◌, ◌++◌, length, take, filter, Option, None}
use Rattle.std.proofs.Common.{Some, Result, Ok, refl, arith, ap, sym, subst, inl, inr}
use Rattle.std.specs.Prelude.{IsTrue}
use Rattle.std.specs.List.{AllByRecursion}
use Rattle.std.proofs.lemmas.List.Concat.{flat_map-cons}
use Rattle.history.proofs.Filters.{AllByRecursion-append}
use Rattle.history.specs.Histories.{History}
use Rattle.history.specs.Floors.{Raising, raised}
use Rattle.history.specs.Machine.{Machine, Gate, MayBeOpen, OfFloor}
use Rattle.history.specs.Fronts.{OnRaised, OnOpened, OnFront}
use Rattle.law_image.specs.Values.{Value}
use Rattle.law_image.specs.Reading.{Reading}
use Rattle.law_image.specs.Plans.{HasRoom, with_anchors}
use Rattle.law_image.specs.StandsFor.{StandsFor, archived_upto, reclaimed_upto}
use Rattle.law_image.proofs.ArchiveStep.{archive-stands_for}
use Rattle.law_image.proofs.ReclaimStep.{reclaim-stands_for}
use Rattle.law_image.proofs.FloorStep.{floor-stands_for}
use Rattle.law_image.proofs.GroupStep.{length-map}
use Rattle.law_image.proofs.Standing.{last-is}
use Rattle.law_image.proofs.Forms.{has-room}
use Rattle.law_image.specs.Log.{is_in_heap}
use Rattle.law_image.specs.Plans.{HasSlots}
use Rattle.std.proofs.lemmas.Bool.Decides.{nat_tests}
use Rattle.disk.specs.declared.area.Area.TheVariants.{Status, Heap, Archive}
use Rattle.disk.specs.declared.area.DeviceFault.{DeviceFault}
use Rattle.disk.specs.Areas.{AreaState, Areas, Image, AreSound, IsSound, LeavesImage, written}
use Rattle.disk.specs.Calls.{Writes, Syncs, MadeInPart}
use Rattle.wire.specs.Spelling.{IsSpelled, kind_of}
use Rattle.wire.specs.declared.slot.Slot.{Slot}
use Rattle.status.specs.declared.header.Header.{Header}
use Rattle.status.specs.Header.{total}
use Rattle.status.proofs.Rules.{scope_is}
use Rattle.status.specs.Rules.{is_built, runs_of, slot_of as status_slot}
use Rattle.status.specs.SlotCalls.{SlotStage, IsSlotCall}
use Rattle.status.specs.SlotCalls as slots
use Rattle.status.specs.TurnState.{TurnState}
use Rattle.law_layout.specs.Extents.{Extent, IsExtent, AreDistinct}
use Rattle.law_layout.specs.Layouts.{Layout, StoredMember, live, extents_of, IsLayoutOf, HoldsLayout}
use Rattle.law_layout.specs.Keeping.{KeepsExtents}
use Rattle.law_layout.specs.Jobs.{reclaimed}
use Rattle.law_layout.specs.Opening.{AreBuilt}
use Rattle.law_layout.specs.SlotTurns.{Adds, IsTurnAt, MayAt, MayWithin}
use Rattle.law_layout.proofs.Jobs.{archive_laid, reclaim_laid, floor_laid}
use Rattle.law_layout.proofs.Lists.{all_of_front, all_of_back}
use Rattle.law_layout.proofs.RunWays.{row-more}
use Rattle.law_layout.proofs.SlotTurns.{turn_holds, turn_call_holds, turn_call_leads}
use Rattle.store.specs.declared.job.Job.{Job}
use Rattle.store.specs.declared.job.JobWork.{JobWork}
use Rattle.store.specs.declared.job.JobWork.TheVariants.{Archive as ArchiveWork, Reclaim, Floor as FloorWork, Grow}
use Rattle.store.specs.declared.job.JobStage.{JobStage}
use Rattle.store.specs.declared.job.JobStage.TheVariants as job
use Rattle.store.specs.Values.{turn_in, turn_of, lent_by}
use Rattle.law_refinement.specs.OnDisk.{IsImageOf, Product, OfRun, OfAnchors, OfFloor, body_of, slot_naming, laid_with, read_with, MayBeNext, IsMadeBy}
use Rattle.law_refinement.specs.OnDisk.{IsMaking, KeepsProduct, IsAtJob, HasJob, IsRested}
use Rattle.law_refinement.proofs.Besides.{IsBeside, AreBeside, all-keep, all-hold, beside-numbers}
use Rattle.law_refinement.proofs.Joining.{MayOpen, MayOpenWithin, built-more}

-- the first of these have what all have
all-taken-of : {X : Type 0} (P : X → Type 0) (n : ℕ) (xs : List X) → AllByRecursion P xs → AllByRecursion P (take n xs)
all-taken-of P zero xs all = tt
all-taken-of P (suc n) [] all = tt
all-taken-of P (suc n) (x ∷ xs) all = (all.0, all-taken-of P n xs all.1)

-- where commits are built, so is each kind that a job makes
pub product-built : (profile : ℕ) (p : Product) → IsTrue (is_built profile 1) → IsTrue (is_built profile (kind_of (body_of p)))
product-built profile (OfRun run) built = built
product-built profile (OfAnchors a) built = built
product-built profile (OfFloor scope floor) built = built

-- ---- the status area as it would rest

-- where no job's slot is in the writing, that is the status area
pub resting : (header : Header) (layout : Layout) (o : Option TurnState) (rested status : AreaState) → o ≡ None → IsRested header layout o rested status
    → status ≡ rested
resting header layout o rested status none rests = subst (λ (x : Option TurnState). IsRested header layout x rested status) none rests

pub rested-now : (header : Header) (layout : Layout) (o : Option TurnState) (status : AreaState) → o ≡ None → IsRested header layout o status status
rested-now header layout o status none = subst (λ (x : Option TurnState). IsRested header layout x status status) (sym none) refl

pub rested-sound : (header : Header) (layout : Layout) (o : Option TurnState) (rested status : AreaState) → IsSound status
    → IsRested header layout o rested status → IsSound rested
rested-sound header layout None rested status sound rests = subst IsSound rests sound
rested-sound header layout (Some t) rested status sound rests = rests.1

pub sound-at : (areas : Areas) (rested : AreaState) → AreSound areas → IsSound rested → AreSound (record areas { status = rested })
sound-at areas rested sound is Status = is
sound-at areas rested sound is Heap = sound Heap
sound-at areas rested sound is Archive = sound Archive

-- ---- what a job makes

-- the extents that it is made of
abbrev pub made_extents : Product → List Extent
made_extents (OfRun run) = []
made_extents (OfAnchors a) = a.extents
made_extents (OfFloor scope floor) = []

extents-filtered : (P : Extent → Type 0) (late : StoredMember → Bool) (members : List StoredMember) → AllByRecursion P (extents_of members)
    → AllByRecursion P (extents_of (filter late members))
extents-filtered P late [] all = tt
extents-filtered P late (s ∷ members) all =
    let whole : AllByRecursion P (s.extents ++ extents_of members) = subst (AllByRecursion P) (flat_map-cons (λ (x : StoredMember). x.extents) s members) all in
    let rest = extents-filtered P late members (all_of_back P s.extents (extents_of members) whole) in
    elim (late s) as (λ (b : Bool). AllByRecursion P (extents_of (cond b (s ∷ filter late members) (filter late members)))) [
      | true ↦ subst (AllByRecursion P) (sym (flat_map-cons (λ (x : StoredMember). x.extents) s (filter late members)))
          (AllByRecursion-append P s.extents (extents_of (filter late members)) (all_of_front P s.extents (extents_of members) whole) rest)
      | false ↦ rest
    ]

-- the live extents once it stands in the log are of those before it, and its own
pub live-with : (P : Extent → Type 0) (layout : Layout) (p : Product) → AllByRecursion P (live layout) → AllByRecursion P (made_extents p)
    → AllByRecursion P (live (laid_with layout p))
live-with P layout (OfRun run) all made = all
live-with P layout (OfFloor scope floor) all made = all
live-with P layout (OfAnchors a) all made =
    AllByRecursion-append P a.extents (extents_of (filter (λ (s : StoredMember). nat_lt a.entry.upto s.entry.time) layout.members)) made
    (extents-filtered P (λ (s : StoredMember). nat_lt a.entry.upto s.entry.time) layout.members (all_of_back P layout.anchors (extents_of layout.members) all))

-- a job that makes something has a slot lent
pub made-lends : (reserved : List ℕ) (work : JobWork) (p : Product) → IsMadeBy reserved work p → lent_by work ≡ 1
made-lends reserved (ArchiveWork run writer) p made = refl
made-lends reserved (Reclaim anchors source written) p made = refl
made-lends reserved (FloorWork scope floor floors) p made = refl
made-lends reserved (Grow growth) p made = absurd made

-- its numbers are those that are out for the job
pub made-beside : (layout : Layout) (reading : Reading) (h : History Value) (reserved : List ℕ) (work : JobWork) (p : Product) (n : ℕ)
    → IsMadeBy reserved work p → MayBeNext layout reading h p → AllByRecursion (λ (k : ℕ). k ≢ n) reserved → AreBeside n (made_extents p)
made-beside layout reading h reserved (ArchiveWork run writer) (OfRun r) n made next others = tt
made-beside layout reading h reserved (ArchiveWork run writer) (OfAnchors a) n made next others = absurd made
made-beside layout reading h reserved (ArchiveWork run writer) (OfFloor scope floor) n made next others = absurd made
made-beside layout reading h reserved (Reclaim anchors source written) (OfRun r) n made next others = absurd made
made-beside layout reading h reserved (Reclaim anchors source written) (OfFloor scope floor) n made next others = absurd made
made-beside layout reading h reserved (FloorWork scope floor floors) (OfRun r) n made next others = absurd made
made-beside layout reading h reserved (FloorWork scope floor floors) (OfAnchors a) n made next others = absurd made
made-beside layout reading h reserved (FloorWork scope floor floors) (OfFloor only to) n made next others = tt
made-beside layout reading h reserved (Grow growth) p n made next others = absurd made
made-beside layout reading h reserved (Reclaim anchors source written) (OfAnchors a) n made next others =
    beside-numbers n a.extents next.chain.is_chain.each (subst (AllByRecursion (λ (k : ℕ). k ≢ n)) (sym made.1) others)

-- ---- what a job keeps while others write

turn-beside : (header : Header) (old : Layout) (slot : Slot) (new : Layout) (stage : SlotStage) (areas : Areas) (heap : AreaState)
    → KeepsExtents (live old) heap → KeepsExtents (live new) heap
    → IsTurnAt header old slot new stage areas → IsTurnAt header old slot new stage (record areas { heap = heap })
turn-beside header old slot new stage areas heap old_kept new_kept at = record {
  status = at.status;
  old_parts = record { extents = old_kept; runs = at.old_parts.runs };
  new_parts = record { extents = new_kept; runs = at.new_parts.runs };
}

-- the heap is written beside the live chains and beside what the job makes
pub job-beside-heap : (header : Header) (layout : Layout) (reading : Reading) (h : History Value) (reserved : List ℕ) (o : Option Job) (areas : Areas)
    (heap : AreaState) (n : ℕ) → IsBeside n areas.heap heap
    → AreBeside n (live layout) → AllByRecursion (λ (k : ℕ). k ≢ n) reserved → HasJob header layout reading h reserved o areas
    → HasJob header layout reading h reserved o (record areas { heap = heap })
job-beside-heap header layout reading h reserved None areas heap n beside apart others has = tt
job-beside-heap header layout reading h reserved (Some j) areas heap n beside apart others has =
    record { product = has.product; made = has.made; next = has.next; at = by-stage j.stage has.at }
  where
    own : AreBeside n (made_extents has.product)
    own = made-beside layout reading h reserved j.work has.product n has.made has.next others

    making : (work : JobWork) (p : Product) → AreBeside n (made_extents p) → IsMaking work p areas → IsMaking work p (record areas { heap = heap })
    making (ArchiveWork run writer) (OfRun r) mine at = at
    making (ArchiveWork run writer) (OfAnchors a) mine at = absurd at
    making (ArchiveWork run writer) (OfFloor scope floor) mine at = absurd at
    making (FloorWork scope floor floors) p mine at = absurd at
    making (Grow growth) p mine at = absurd at
    making (Reclaim anchors source written) (OfFloor scope floor) mine at = absurd at
    making (Reclaim anchors source written) (OfRun r) mine at = absurd at
    making (Reclaim anchors source written) (OfAnchors a) mine at = record {
      rest = at.rest;
      held = all-hold n areas.heap heap beside (take written a.extents) (all-taken-of (λ (f : Extent). IsExtent f
          × (f.number ≢ n)) written a.extents mine) at.held;
    }

    kept : (p : Product) → AreBeside n (made_extents p) → KeepsProduct p areas → KeepsProduct p (record areas { heap = heap })
    kept (OfRun r) mine at = at
    kept (OfFloor scope floor) mine at = at
    kept (OfAnchors a) mine at = all-keep n areas.heap heap beside a.extents mine at

    by-stage : (s : JobStage) → IsAtJob header layout j.work has.product s areas → IsAtJob header layout j.work has.product s (record areas { heap = heap })
    by-stage job.Writing at = making j.work has.product own at
    by-stage job.Stored at = kept has.product own at
    by-stage (job.Turning t) at = record {
      number = at.number;
      long = at.long;
      spelled = at.spelled;
      at = turn-beside header layout (slot_naming (length layout.slots) has.product) (laid_with layout has.product) t.stage areas heap
          (all-keep n areas.heap heap beside (live layout) apart at.at.old_parts.extents)
          (all-keep n areas.heap heap beside (live (laid_with layout has.product)) (live-with (λ (f : Extent). IsExtent f
          × (f.number ≢ n)) layout has.product apart own) at.at.new_parts.extents)
          at.at;
    }

-- a job whose slot is not in the writing does not ask for the status area
pub job-beside-status : (header : Header) (layout : Layout) (reading : Reading) (h : History Value) (reserved : List ℕ) (o : Option Job) (areas : Areas)
    (status : AreaState) → turn_of o ≡ None
    → HasJob header layout reading h reserved o areas → HasJob header layout reading h reserved o (record areas { status = status })
job-beside-status header layout reading h reserved None areas status none has = tt
job-beside-status header layout reading h reserved (Some j) areas status none has =
    record { product = has.product; made = has.made; next = has.next; at = by-stage j.stage none has.at }
  where
    making : (work : JobWork) (p : Product) → IsMaking work p areas → IsMaking work p (record areas { status = status })
    making (ArchiveWork run writer) (OfRun r) at = at
    making (ArchiveWork run writer) (OfAnchors a) at = at
    making (ArchiveWork run writer) (OfFloor scope floor) at = at
    making (FloorWork scope floor floors) p at = at
    making (Grow growth) p at = at
    making (Reclaim anchors source written) (OfFloor scope floor) at = at
    making (Reclaim anchors source written) (OfRun r) at = at
    making (Reclaim anchors source written) (OfAnchors a) at = at

    kept : (p : Product) → KeepsProduct p areas → KeepsProduct p (record areas { status = status })
    kept (OfRun r) at = at
    kept (OfFloor scope floor) at = at
    kept (OfAnchors a) at = at

    by-stage : (s : JobStage) → turn_in s ≡ None → IsAtJob header layout j.work has.product s areas
        → IsAtJob header layout j.work has.product s (record areas { status = status })
    by-stage job.Writing none at = making j.work has.product at
    by-stage job.Stored none at = kept has.product at
    by-stage (job.Turning t) none at = absurd cc

-- nor for the layout, but that what it makes may come next
pub job-moves : (header : Header) (layout layout' : Layout) (reading reading' : Reading) (h h' : History Value) (reserved : List ℕ) (o : Option Job)
    (areas : Areas) → turn_of o ≡ None
    → ((p : Product) → MayBeNext layout reading h p → MayBeNext layout' reading' h' p)
    → HasJob header layout reading h reserved o areas → HasJob header layout' reading' h' reserved o areas
job-moves header layout layout' reading reading' h h' reserved None areas none next has = tt
job-moves header layout layout' reading reading' h h' reserved (Some j) areas none next has =
    record { product = has.product; made = has.made; next = next has.product has.next; at = by-stage j.stage none has.at }
  where
    by-stage : (s : JobStage) → turn_in s ≡ None → IsAtJob header layout j.work has.product s areas → IsAtJob header layout' j.work has.product s areas
    by-stage job.Writing none at = at
    by-stage job.Stored none at = at
    by-stage (job.Turning t) none at = absurd cc

-- a profile that is built is one of slots
pub built-slots : (profile : ℕ) → IsTrue (is_built profile 1) → is_in_heap profile ≡ false
built-slots profile built = grind (arith, nat_tests, built)

-- ---- the slot of what a job makes

-- the floors once it stands in the log
abbrev pub floors_with : Product → (ℕ → ℕ) → ℕ → ℕ
floors_with (OfRun run) floors = floors
floors_with (OfAnchors a) floors = floors
floors_with (OfFloor scope floor) floors = raised scope floor floors

-- Where its gate may be open, a stop may leave it: a floor is the one that the machine has in the making, and so is its gate.
abbrev pub MayStand : Product → Machine Value → Type 0
MayStand (OfRun run) m = Unit {0}
MayStand (OfAnchors a) m = Unit {0}
MayStand (OfFloor scope floor) m = (m.raising ≡ Some (record { scope = scope; floor = floor })) × (m.gate ≡ MayBeOpen OfFloor)

-- its extents are in no live chain, and each is in it once
abbrev pub IsFree : Layout → Product → Type 0
IsFree layout p = AreDistinct (live layout ++ made_extents p)

module _ (header : Header) (m : Machine Value) (layout : Layout) (reading : Reading) (laid : IsLayoutOf header layout reading)
    (stands : StandsFor reading m.published m.floors)
    (profile_built : IsTrue (is_built header.profile 1)) (built : AreBuilt header layout.slots) (room : length layout.slots < total header)
    (p : Product) (next : MayBeNext layout reading m.published p) (free : IsFree layout p) where
  abbrev slot : Slot
  slot = slot_naming (length layout.slots) p

  abbrev after : Layout
  after = laid_with layout p

  abbrev reading-after : Reading
  reading-after = read_with reading p

  slots-after : (q : Product) → (laid_with layout q).slots ≡ layout.slots ++ slot_naming (length layout.slots) q ∷ []
  slots-after (OfRun run) = refl
  slots-after (OfAnchors a) = refl
  slots-after (OfFloor scope floor) = refl

  pub adds : Adds header layout slot after
  adds = record { slots_are = slots-after p; room = room }

  laid-by : (q : Product) → MayBeNext layout reading m.published q → IsFree layout q → IsLayoutOf header (laid_with layout q) (read_with reading q)
  laid-by (OfRun run) may apart =
      archive_laid header layout reading (slot_naming (length layout.slots) (OfRun run)) run laid refl may.stored
      (row-more 0 (runs_of layout.slots) run.entry laid.heap.in_row may.behind)
  laid-by (OfAnchors a) may apart =
      let order : reclaimed_upto reading ≤ archived_upto reading = let later = may.later in omega (arith, later) in
      subst (λ (n : ℕ). IsLayoutOf header (reclaimed layout (slot_naming (length layout.slots) (OfAnchors a)) n a.extents) (with_anchors reading a.olds))
      (sym may.upto)
      (reclaim_laid header layout reading (slot_naming (length layout.slots) (OfAnchors a)) a.entry a.extents a.olds laid refl may.upto order may.chain apart)
  laid-by (OfFloor scope floor) may apart = floor_laid header layout reading (slot_naming (length layout.slots) (OfFloor scope floor)) scope floor laid refl

  pub laid-after : IsLayoutOf header after reading-after
  laid-after = laid-by p next free

  reading-room : HasRoom reading
  reading-room =
      has-room reading (omega (
        arith,
        room,
        laid.heap.slots_are,
        laid.heap.pieces_are,
        ap (λ l. length l) laid.heap.log_is,
        length-map (λ (s : Slot). status_slot s.body) layout.slots,
      ))

  in-slot_log : HasSlots reading
  in-slot_log = ap is_in_heap laid.heap.profile_is ∙ built-slots header.profile profile_built

  stands-by : (q : Product) → MayBeNext layout reading m.published q → StandsFor (read_with reading q) m.published (floors_with q m.floors)
  stands-by (OfRun run) may =
      archive-stands_for reading m.published m.floors stands run.entry.upto run.records may.plan (
        may.later,
        omega (arith, may.by_last, last-is reading m.published m.floors stands),
      ) in-slot_log reading-room
  stands-by (OfAnchors a) may = reclaim-stands_for reading m.published m.floors stands a.olds may.plan may.later in-slot_log reading-room
  stands-by (OfFloor scope floor) may =
      floor-stands_for reading m.published m.floors stands scope floor (
        scope_is reading.profile scope may.scope_is,
        omega (arith, may.by_last, last-is reading m.published m.floors stands),
        may.rises,
      ) in-slot_log reading-room

  pub stands-after : StandsFor reading-after m.published (floors_with p m.floors)
  stands-after = stands-by p next

  pub built-after : AreBuilt header after.slots
  built-after = subst (AreBuilt header) (sym (slots-after p)) (built-more header layout.slots slot built (product-built header.profile p profile_built))

  pub image-before : (image : Image) → HoldsLayout header image layout → IsImageOf header image m.published m.floors
  image-before image held =
      record { layout = layout; reading = reading; laid = laid; held = held; stands = stands; profile_built = profile_built; built = built }

  pub image-after : (image : Image) → HoldsLayout header image after → IsImageOf header image m.published (floors_with p m.floors)
  image-after image held =
      record {
        layout = after;
        reading = reading-after;
        laid = laid-after;
        held = held;
        stands = stands-after;
        profile_built = profile_built;
        built = built-after;
      }

  on-front : (image : Image) → HoldsLayout header image after → MayStand p m → OnFront (IsImageOf header image) m
  on-front image held may = by-product p (image-after image held) may
    where
      by-product : (q : Product) → IsImageOf header image m.published (floors_with q m.floors) → MayStand q m → OnFront (IsImageOf header image) m
      by-product (OfRun run) is may = inl is
      by-product (OfAnchors a) is may = inl is
      by-product (OfFloor scope floor) is may =
          inr (subst (λ (g : Gate). OnOpened (IsImageOf header image) m g) (sym may.1)
          (subst (λ (o : Option Raising). OnRaised (IsImageOf header image) m o) (sym may.0) is))

  by-stage : (stage : SlotStage) (image : Image) → (MayOpen stage → MayStand p m)
      → MayAt stage (HoldsLayout header image layout) (HoldsLayout header image after) → OnFront (IsImageOf header image) m
  by-stage slots.Begun image may may_be = inl (image-before image may_be)
  by-stage slots.BodyWritten image may may_be = inl (image-before image may_be)
  by-stage slots.BodySynced image may may_be = inl (image-before image may_be)
  by-stage slots.GateWritten image may (inl old) = inl (image-before image old)
  by-stage slots.GateWritten image may (inr new) = on-front image new (may tt)
  by-stage slots.Opened image may may_be = on-front image may_be (may tt)

  within-stage : (stage : SlotStage) (image : Image) → (MayOpenWithin stage → MayStand p m)
      → MayWithin stage (HoldsLayout header image layout) (HoldsLayout header image after) → OnFront (IsImageOf header image) m
  within-stage slots.Begun image may may_be = inl (image-before image may_be)
  within-stage slots.BodyWritten image may may_be = inl (image-before image may_be)
  within-stage slots.BodySynced image may (inl old) = inl (image-before image old)
  within-stage slots.BodySynced image may (inr new) = on-front image new (may tt)
  within-stage slots.GateWritten image may (inl old) = inl (image-before image old)
  within-stage slots.GateWritten image may (inr new) = on-front image new (may tt)
  within-stage slots.Opened image may may_be = on-front image may_be (may tt)

  -- what a stop may leave while it is in the writing
  pub product-leaves : (stage : SlotStage) (areas : Areas) (image : Image) → (MayOpen stage → MayStand p m) → IsTurnAt header layout slot after stage areas
      → LeavesImage areas image → OnFront (IsImageOf header image) m
  product-leaves stage areas image may at left = by-stage stage image may (turn_holds header layout slot after adds stage areas image at left)

  module _ (body : List ℕ) (long : length body ≡ 511) (spelled : IsSpelled header.profile (length layout.slots) body slot) where
    -- and within one of its calls and after it, made or refused
    pub product-leaves-within : (stage : SlotStage) (result : Result (Unit {0}) DeviceFault) (old new : Areas) (image : Image)
        → (MayOpenWithin stage → MayStand p m) → IsTurnAt header layout slot after stage old → AreSound old
        → IsSlotCall (length layout.slots) body stage result old new → LeavesImage new image → OnFront (IsImageOf header image) m
    product-leaves-within stage result old new image may at sound call left =
        within-stage stage image may (turn_call_holds header layout slot after adds body long spelled stage result old new image at sound call left)

    pub product-leads : (stage : SlotStage) (old new : Areas) → IsTurnAt header layout slot after stage old → AreSound old
        → IsSlotCall (length layout.slots) body stage (Ok tt) old new → IsTurnAt header layout slot after (slots.slot_stage_after stage) new
    product-leads stage old new at sound call = turn_call_leads header layout slot after adds body long spelled stage old new at sound call

-- ---- calls of the heap, as if the status area rested

rested-part : (area : AreaState) (at n : ℕ) (old new : Areas) → MadeInPart Heap at n old new
    → MadeInPart Heap at n (record old { status = area }) (record new { status = area })
rested-part area at n old new (inl same) = inl (ap (λ (x : Areas). record x { status = area }) same)
rested-part area at n old new (inr tears) = inr (record { torn = tears.torn; areas = ap (λ (x : Areas). record x { status = area }) tears.areas })

pub rested-write : (area : AreaState) (at : ℕ) (bytes : List ℕ) (old new : Areas) → Writes Heap at bytes (Ok tt) old new
    → Writes Heap at bytes (Ok tt) (record old { status = area }) (record new { status = area })
rested-write area at bytes old new call =
    record { written = ap (λ (x : Areas). record x { status = area }) call.written; in_part = rested-part area at (length bytes) old new call.in_part }

pub rested-sync : (area : AreaState) (old new : Areas) → Syncs Heap (Ok tt) old new
    → Syncs Heap (Ok tt) (record old { status = area }) (record new { status = area })
rested-sync area old new call = record { synced = ap (λ (x : Areas). record x { status = area }) call.synced; same = tt }
