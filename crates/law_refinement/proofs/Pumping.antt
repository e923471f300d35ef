-- A step of a group keeps what the store stands for, in memory and on its disk.
use Rattle.std.proofs.Common.{◌≡◌, ◌≢◌, cond, slice_get, ℕ, suc, ◌+◌, ◌<◌, ◌≤◌, ◌==◌, ◌&&◌, min, nat_lt, Bool, true, false, List, [], ◌∷◌, ◌++◌, length, take}
use Rattle.std.proofs.Common.{drop, map, Option, None, Some, is_some, ◌||◌, Result, Ok, Err, MatchBool, MatchOption, refl, arith, ap, sym, subst, ◌∙◌, inl, inr}
use Rattle.std.proofs.Common.{length-append, append_assoc}
use Rattle.std.specs.Prelude.{IsTrue, min}
use Rattle.std.specs.List.{flat_map}
use Rattle.std.proofs.lemmas.Bool.{cases_lt}
use Rattle.std.proofs.lemmas.List.{append-nil, map-append, take-append-drop}
use Rattle.std.proofs.lemmas.Bool.Decides.{nat_tests}
use Rattle.history.specs.Floors.{Raising}
use Rattle.law_image.specs.Log.{IsScopeOf}
use Rattle.history.specs.Machine.{Machine, Change, Gate, Shut, Due, MayBeOpen, OfGroup, OfFloor, IsMachine}
use Rattle.history.specs.Fronts.{OnFront}
use Rattle.history.specs.Steps as steps
use Rattle.history.specs.Steps.{Event, Run}
use Rattle.history.specs.declared.time.TimedWrite.{TimedWrite}
use Rattle.history.specs.Histories as histories
use Rattle.history.specs.Histories.{History, HasRisingTimes, last, last_after}
use Rattle.history.proofs.Histories.{last_after-append, rising-from_following, may_follow-behind}
use Rattle.history.proofs.Runs.{last-later}
use Rattle.history.proofs.Machines.{run-machine}
use Rattle.law_image.specs.Values.{Value, IsValue}
use Rattle.law_image.specs.Plans.{HasRoom, with_group}
use Rattle.law_image.specs.Reading.{Commits, Member}
use Rattle.law_image.specs.StandsFor.{archived_upto, reclaimed_upto}
use Rattle.law_image.specs.Log.{floor_of}
use Rattle.law_image.proofs.Logs.{reclaim_mark-append, floors-append}
use Rattle.law_image.proofs.GroupStep.{same_archived, more_facts}
use Rattle.law_image.proofs.PlansStay.{archive-plan-stays, reclaim-plan-stays}
use Rattle.disk.specs.Areas.{AreaState, Areas, Image, AreSound, LeavesImage, loosened, written, synced}
use Rattle.disk.proofs.Stops.{left_by_write}
use Rattle.disk.specs.Calls.{Writes, Syncs}
use Rattle.disk.specs.declared.area.Area.TheVariants.{Status, Heap}
use Rattle.wire.specs.declared.slot.Body.{Body}
use Rattle.wire.specs.declared.slot.Body.TheVariants.{Commit as CommitBody, Archived, Reclaimed, Floor}
use Rattle.wire.specs.declared.slot.Member.{Member as Entry}
use Rattle.wire.specs.declared.slot.Slot.{Slot}
use Rattle.wire.specs.Spelling.{spelling, IsSpelled}
use Rattle.law_image.specs.StandsFor.{StandsFor}
use Rattle.law_layout.specs.SlotTurns.{IsTurnAt}
use Rattle.extents.specs.declared.usage.Usage.{Usage}
use Rattle.extents.specs.Usages as usages
use Rattle.extents.specs.Usages.{IsOut, AreOut}
use Rattle.extents.specs.declared.usage.Usage.TheVariants.{Kept}
use Rattle.deltas.specs.Extents.{Extent, extent_start, extent_bytes}
use Rattle.status.specs.declared.header.Header.{Header}
use Rattle.status.specs.Rules.{row_end}
use Rattle.status.specs.SlotCalls.{SlotStage, IsSlotCall}
use Rattle.status.specs.SlotCalls as slots
use Rattle.status.specs.TurnState.{TurnState, LogState}
use Rattle.disk.specs.declared.area.DeviceFault.{DeviceFault}
use Rattle.law_layout.specs.Extents.{IsExtent, AreDistinct}
use Rattle.law_layout.specs.Layouts.{live, extents_of}
use Rattle.law_layout.specs.Turn as turns
use Rattle.law_layout.specs.Turn.{Group, laid_out}
use Rattle.law_layout.proofs.Layouts.{live_more, runs_more, has_room, live_extents_are}
use Rattle.law_layout.proofs.Lists.{all_of_back, distinct_join}
use Rattle.law_layout.proofs.Standing.{rests_hold}
use Rattle.chains.specs.KeyWrites.{KeyWrites}
use Rattle.group.specs.Queued.{QueuedValue, numbers_of}
use Rattle.group.specs.declared.answers.Did.{Did}
use Rattle.group.specs.declared.answers.Did.TheVariants as did
use Rattle.group.specs.declared.answers.PumpFault.{PumpFault}
use Rattle.group.specs.declared.answers.PumpFault.TheVariants as pump
use Rattle.group.specs.declared.queued.StoredExtent.{StoredExtent}
use Rattle.group.specs.Order.{IsInOrder, StageFits}
use Rattle.group.specs.Values.{TransactionsValue, mark_after, is_turning}
use Rattle.group.specs.Steps as groups
use Rattle.group.specs.Steps.{IsCommitOf}
use Rattle.group.specs.declared.stage.GroupStage.{GroupStage}
use Rattle.group.specs.declared.stage.GroupStage.TheVariants.{NoGroup, Storing, Stored, Turning}
use Rattle.group.specs.declared.stage.NextStep.{NextStep}
use Rattle.group.specs.declared.stage.NextStep.TheVariants as next
use Rattle.group.proofs.Kept.{advance-is, keeps-grouped, keeps-wrote, keeps-synced, keeps-begun, keeps-published}
use Rattle.group.proofs.Publishing.{out-beside}
use Rattle.floors.specs.Floors.{FloorsValue}
use Rattle.store.specs.Values.{StoreValue, KeepsJob, IsInStep, IsOnItsWay, turn_in, turn_of, lent_to}
use Rattle.store.specs.declared.job.Job.{Job}
use Rattle.store.specs.declared.job.JobWork.{JobWork}
use Rattle.store.specs.declared.job.JobWork.TheVariants.{Archive as ArchiveWork, Reclaim, Floor as FloorWork, Grow}
use Rattle.store.specs.declared.job.JobStage.{JobStage}
use Rattle.store.specs.declared.job.JobStage.TheVariants as job
use Rattle.store.specs.Pumps.{Pumps, TakesStep, WritesExtent, MayBeginSlot, TurnsSlot, IsTurned, started, freshly, SyncsHeap}
use Rattle.law_refinement.specs.Standing.{StandsInMemory}
use Rattle.law_refinement.specs.OnDisk.{IsImageOf, AllPacked, written_before, group_of, IsAtStage, IsTurnOf, Product, OfRun, OfAnchors, OfFloor, MayBeNext}
use Rattle.law_refinement.specs.OnDisk.{IsMadeBy, IsAtJob, HasJob, IsRested, Works, StandsOnDisk}
use Rattle.std.specs.List.{AllByRecursion}
use Rattle.law_refinement.specs.Stands.{StandsBeside as Stands, KeepsWork, KeepsJobOf, HasGate, gate_at, gate_for, gate_in, job_gate, gate_of, raising_by}
use Rattle.law_refinement.specs.Stands.{raising_of, AreOfProfile, RaisesFloor}
use Rattle.law_refinement.specs.Laws.{begins_in, breaks_in, ends_in}
use Rattle.law_refinement.proofs.Conflicts.{rising-front, behind-group}
use Rattle.law_refinement.proofs.Orders.{order-beside}
use Rattle.law_refinement.proofs.Packed.{packed-rest, length-mapped}
use Rattle.law_refinement.proofs.Retired.{reserved-out, published-times, chains-long}
use Rattle.law_refinement.proofs.Places.{IsNext, next-is, behind-is, take-next, drop-next, none-left}
use Rattle.law_refinement.proofs.Usages.{AllKept, all-published}
use Rattle.law_refinement.proofs.Working.{Inside, Working, working, group_in, still-shut, room-left, job-room}
use Rattle.law_refinement.proofs.Joining as joining
use Rattle.law_refinement.proofs.Joining.{numbers-split}
use Rattle.law_refinement.proofs.Publishing.{restaged, regated, breaks, publishes, freshens, fresh-marks, begins}
use Rattle.law_refinement.proofs.Besides.{IsBeside, AreBeside, write-beside, torn-beside, sync-beside, beside-none, beside-out, none-number}
use Rattle.law_refinement.proofs.Freshening.{fresh-entries, fresh-order, fresh-works}
use Rattle.law_refinement.proofs.Jobs.{made-lends, IsFree, MayStand, resting, rested-now, rested-sound, sound-at, job-beside-heap, job-beside-status, job-moves}
use Rattle.law_refinement.proofs.Jobs.{product-leaves, rested-write, rested-sync}

-- ---- the gate

pub open-is : (change : Change) (s : SlotStage) → joining.MayOpen s → gate_at change s ≡ MayBeOpen change
open-is change slots.Begun may = absurd may
open-is change slots.BodyWritten may = absurd may
open-is change slots.BodySynced may = absurd may
open-is change slots.GateWritten may = refl
open-is change slots.Opened may = refl

-- the gate after a call that is refused
abbrev pub gate_left : Gate → Gate
gate_left Shut = Shut
gate_left (Due OfGroup) = MayBeOpen OfGroup
gate_left (Due OfFloor) = Due OfFloor
gate_left (MayBeOpen change) = MayBeOpen change

left-is : (s : SlotStage) → joining.MayOpenWithin s → gate_left (gate_at OfGroup s) ≡ MayBeOpen OfGroup
left-is slots.Begun may = absurd may
left-is slots.BodyWritten may = absurd may
left-is slots.BodySynced may = refl
left-is slots.GateWritten may = refl
left-is slots.Opened may = refl

-- the machine breaks
breaks-run : (m : Machine Value) → m.failed ≡ false → (gate : Gate) → m.gate ≡ gate
    → Run IsValue m (breaks_in gate) (steps.broken (steps.gated m (gate_left gate)))
breaks-run m works Shut is = (steps.broken m, (works, refl), ap (λ (g : Gate). steps.broken (steps.gated m g)) (sym is))
breaks-run m works (Due OfGroup) is =
    (steps.gated m (MayBeOpen OfGroup), (works, is, refl), (steps.broken (steps.gated m (MayBeOpen OfGroup)), (works, refl), refl))
breaks-run m works (Due OfFloor) is = (steps.broken m, (works, refl), ap (λ (g : Gate). steps.broken (steps.gated m g)) (sym is))
breaks-run m works (MayBeOpen change) is = (steps.broken m, (works, refl), ap (λ (g : Gate). steps.broken (steps.gated m g)) (sym is))

-- where no slot of a group is in the writing, the gate is the job's
no-turn : (o : Option TurnState) (job : Option Job) → is_some o ≡ false → gate_of o job ≡ job_gate job
no-turn None job none = refl
no-turn (Some t) job none = absurd cc

gate-of-job : (v : StoreValue) (m : Machine Value) → IsInStep v → v.transactions.failed ≡ m.failed → HasGate v m → m.failed ≡ false
    → is_turning v.transactions.stage ≡ false → m.gate ≡ job_gate v.job
gate-of-job v m in_step failed gate works still =
    gate works ∙ no-turn v.turn v.job (sym (in_step.turns (failed ∙ works)).turning ∙ still)

-- and a refused call of the group leaves it so
job-left : (o : Option Job) → gate_left (job_gate o) ≡ job_gate o
job-left None = refl
job-left (Some j) = by-stage j.stage
  where
    floor-left : (s : SlotStage) → gate_left (gate_at OfFloor s) ≡ gate_at OfFloor s
    floor-left slots.Begun = refl
    floor-left slots.BodyWritten = refl
    floor-left slots.BodySynced = refl
    floor-left slots.GateWritten = refl
    floor-left slots.Opened = refl

    by-work : (work : JobWork) (s : SlotStage) → gate_left (gate_for work s) ≡ gate_for work s
    by-work (ArchiveWork run writer) s = refl
    by-work (Reclaim anchors source written) s = refl
    by-work (FloorWork scope floor floors) s = floor-left s
    by-work (Grow growth) s = refl

    by-stage : (s : JobStage) → gate_left (gate_in j.work s) ≡ gate_in j.work s
    by-stage job.Writing = refl
    by-stage job.Stored = refl
    by-stage (job.Turning t) = by-work j.work t.stage

gate-stays : (v : StoreValue) (m : Machine Value) → IsInStep v → v.transactions.failed ≡ m.failed → HasGate v m → m.failed ≡ false
    → is_turning v.transactions.stage ≡ false → gate_left m.gate ≡ m.gate
gate-stays v m in_step failed gate works still =
    let is = gate-of-job v m in_step failed gate works still in
    ap gate_left is ∙ job-left v.job ∙ sym is

-- ---- what a stop may leave

pub stage-leaves : (v : StoreValue) (m : Machine Value) (c : Working v m) (areas : Areas) (s : GroupStage) (o : Option TurnState) → m.gate ≡ gate_of o v.job
    → StageFits s v.transactions.group v.transactions.queue
    → IsAtStage c.header c.works.log.layout (group_in v m c) v.transactions.queue s o areas → (image : Image) → LeavesImage areas image
    → OnFront (IsImageOf c.header image) m
stage-leaves v m c areas NoGroup o gate fits at image left =
    inl record {
      layout = c.works.log.layout;
      reading = c.works.log.reading;
      laid = c.works.log.laid;
      held = rests_hold c.header c.works.log.layout areas image at left;
      stands = c.works.log.stands;
      profile_built =
          c.profile_built;
      built = c.works.log.built;
    }
stage-leaves v m c areas (Storing member extent) o gate fits at image left =
    joining.leaves_at v m c fits.0 m.gate (turns.Storing _ _) areas image (λ no. absurd no) at left
stage-leaves v m c areas Stored o gate fits at image left =
    joining.leaves_at v m c fits m.gate (turns.Turning slots.Begun) areas image (λ no. absurd no) at left
stage-leaves v m c areas Turning None gate fits at image left = absurd at
stage-leaves v m c areas Turning (Some t) gate fits at image left =
    joining.leaves_at v m c fits m.gate (turns.Turning t.stage) areas image (λ may. gate ∙ open-is OfGroup t.stage may) at.at left

-- the areas, with the status area as it would rest
abbrev resting-areas : (v : StoreValue) (m : Machine Value) → Working v m → Areas
resting-areas v m c = record v.disk.areas { status = c.works.group.rested }

-- where no job's slot is in the writing, a group is where it is on the disk as it stands
pub now-at : (v : StoreValue) (m : Machine Value) (c : Working v m) → turn_of v.job ≡ None
    → IsAtStage c.header c.works.log.layout (group_in v m c) v.transactions.queue v.transactions.stage v.turn v.disk.areas
now-at v m c still =
    subst (λ (a : AreaState). IsAtStage c.header c.works.log.layout (group_in v m c) v.transactions.queue v.transactions.stage v.turn
    (record v.disk.areas { status = a }))
    (sym (resting c.header c.works.log.layout (turn_of v.job) c.works.group.rested v.disk.areas.status still c.works.group.rests)) c.works.group.at

resting-sound : (v : StoreValue) (m : Machine Value) (c : Working v m) → AreSound (resting-areas v m c)
resting-sound v m c =
    sound-at v.disk.areas c.works.group.rested c.works.sound
    (rested-sound c.header c.works.log.layout (turn_of v.job) c.works.group.rested v.disk.areas.status (c.works.sound Status) c.works.group.rests)

-- what a job makes is in no live chain
pub job-free : (v : StoreValue) (m : Machine Value) (c : Working v m) (work : JobWork) (p : Product) → IsMadeBy v.transactions.reserved work p
    → MayBeNext c.works.log.layout c.works.log.reading m.published p → IsFree c.works.log.layout p
job-free v m c (ArchiveWork run writer) (OfRun r) made next = subst AreDistinct (sym (append-nil (live c.works.log.layout))) c.works.log.laid.heap.apart
job-free v m c (ArchiveWork run writer) (OfAnchors a) made next = absurd made
job-free v m c (Reclaim anchors source written) (OfRun r) made next = absurd made
job-free v m c (Reclaim anchors source written) (OfAnchors a) made next =
    let out = reserved-out v.transactions c.inside.order in
    distinct_join (live c.works.log.layout) a.extents c.works.log.laid.heap.apart
    (joining.distinct-extents a.extents (subst usages.AreDistinct (sym made.1) out.distinct))
    (joining.kept-cross v.transactions.usages (live c.works.log.layout) a.extents c.works.heap.kept
    (subst (AllByRecursion (IsOut v.transactions.usages)) (sym made.1) out.each))
job-free v m c (ArchiveWork run writer) (OfFloor scope floor) made next = absurd made
job-free v m c (Reclaim anchors source written) (OfFloor scope floor) made next = absurd made
job-free v m c (FloorWork scope floor floors) (OfRun r) made next = absurd made
job-free v m c (FloorWork scope floor floors) (OfAnchors a) made next = absurd made
job-free v m c (FloorWork scope floor floors) (OfFloor only to) made next =
    subst AreDistinct (sym (append-nil (live c.works.log.layout))) c.works.log.laid.heap.apart
job-free v m c (Grow growth) p made next = absurd made

raising-is : (only scope : Option ℕ) (to floor : ℕ) → (only ≡ scope) × (to ≡ floor)
    → Path (Option Raising) (Some (record { scope = scope; floor = floor })) (Some (record { scope = only; floor = to }))
raising-is only scope to floor made = λ i. Some (record { scope = sym made.0 i; floor = sym made.1 i })

-- the floor that a job makes is the one in the making, and the machine's gate is its gate
pub may-stand : (m : Machine Value) (reserved : List ℕ) (work : JobWork) (p : Product) → IsMadeBy reserved work p → m.raising ≡ raising_by work
    → (change_is : (scope : Option ℕ) (floor : ℕ) (floors : FloorsValue) → work ≡ FloorWork scope floor floors → m.gate ≡ MayBeOpen OfFloor) → MayStand p m
may-stand m reserved (ArchiveWork run writer) (OfRun r) made raises opens = tt
may-stand m reserved (ArchiveWork run writer) (OfAnchors a) made raises opens = absurd made
may-stand m reserved (ArchiveWork run writer) (OfFloor only to) made raises opens = absurd made
may-stand m reserved (Reclaim anchors source written) (OfRun r) made raises opens = absurd made
may-stand m reserved (Reclaim anchors source written) (OfAnchors a) made raises opens = tt
may-stand m reserved (Reclaim anchors source written) (OfFloor only to) made raises opens = absurd made
may-stand m reserved (FloorWork scope floor floors) (OfRun r) made raises opens = absurd made
may-stand m reserved (FloorWork scope floor floors) (OfAnchors a) made raises opens = absurd made
may-stand m reserved (FloorWork scope floor floors) (OfFloor only to) made raises opens =
    (raises ∙ raising-is only scope to floor made, opens scope floor floors refl)
may-stand m reserved (Grow growth) p made raises opens = absurd made

-- no slot of a group is in the writing beside one of a job
pub no-group-turn : (v : StoreValue) (o : Option TurnState) (t : TurnState) → o ≡ Some t
    → MatchOption o (Unit {0}) (λ u. (u.number ≡ v.log.used) × IsOnItsWay u.stage × (v.turn ≡ None)) → v.turn ≡ None
no-group-turn v None t is apart = absurd cc
no-group-turn v (Some u) t is apart = apart.2

-- the gate of a job whose slot is in the writing
pub gate-in-turn : (v : StoreValue) (m : Machine Value) (j : Job) (t : TurnState) → HasGate v m → m.failed ≡ false → v.turn ≡ None → v.job ≡ Some j → j.stage
    ≡ job.Turning t → m.gate ≡ gate_for j.work t.stage
gate-in-turn v m j t gate works alone is at = gate works ∙ ap (λ (o : Option TurnState). gate_of o v.job) alone ∙ ap job_gate is ∙ ap (gate_in j.work) at

-- what is left while a job's slot is in the writing, or by what else is so
by-job : (v : StoreValue) (m : Machine Value) (c : Working v m) (areas : Areas) (image : Image) → (o : Option Job) → v.job ≡ o
    → HasJob c.header c.works.log.layout c.works.log.reading m.published v.transactions.reserved o areas → LeavesImage areas image
    → (turn_of v.job ≡ None → OnFront (IsImageOf c.header image) m) → OnFront (IsImageOf c.header image) m
by-job v m c areas image None is has left other = other (ap turn_of is)
by-job v m c areas image (Some j) is has left other = by-stage j.stage refl has.at
  where
    stood : (t : TurnState) → j.stage ≡ job.Turning t → joining.MayOpen t.stage → MayStand has.product m
    stood t at may =
        let turning : turn_in j.stage ≡ Some t = ap turn_in at in
        let turns = c.inside.in_step.turns (c.inside.memory.failed ∙ c.on) in
        let alone = no-group-turn v (turn_of v.job) t (ap turn_of is ∙ turning) turns.job in
        let gate = gate-in-turn v m j t c.inside.gate c.on alone is at in
        may-stand m v.transactions.reserved j.work has.product has.made (c.inside.raises.is ∙ ap raising_of is)
        (λ scope floor floors of. gate ∙ ap (λ (work : JobWork). gate_for work t.stage) of ∙ open-is OfFloor t.stage may)

    by-stage : (s : JobStage) → j.stage ≡ s → IsAtJob c.header c.works.log.layout j.work has.product s areas → OnFront (IsImageOf c.header image) m
    by-stage job.Writing at _ = other (ap turn_of is ∙ ap turn_in at)
    by-stage job.Stored at _ = other (ap turn_of is ∙ ap turn_in at)
    by-stage (job.Turning t) at turn =
        product-leaves c.header m c.works.log.layout c.works.log.reading c.works.log.laid c.works.log.stands c.profile_built c.works.log.built
        (job-room v m c (ap lent_to is ∙ made-lends v.transactions.reserved j.work has.product has.made)) has.product has.next
        (job-free v m c j.work has.product has.made has.next) t.stage areas image (λ may. stood t at may) turn.at left

pub works-leave : (v : StoreValue) (m : Machine Value) (c : Working v m) (image : Image) → LeavesImage v.disk.areas image → OnFront (IsImageOf c.header image) m
works-leave v m c image left =
    by-job v m c v.disk.areas image v.job refl c.works.job left
    (λ still. stage-leaves v m c v.disk.areas v.transactions.stage v.turn (c.inside.gate c.on) c.inside.order.stage_fits (now-at v m c still) image left)

-- ---- what is said of a store after a call

-- floors are of the store's profile still, where no floor is raised
pub raises-so : (v v' : StoreValue) (m m' : Machine Value) → RaisesFloor v m → v'.log.profile ≡ v.log.profile → m'.floors ≡ m.floors → m'.raising ≡ m.raising
    → m'.raising ≡ raising_of v'.job → RaisesFloor v' m'
raises-so v v' m m' raises profile floors raising is = record {
  is = is;
  scope = subst (λ (n : ℕ). MatchOption m'.raising (Unit {0}) (λ r. IsScopeOf n r.scope)) (sym profile)
      (subst (λ (o : Option Raising). MatchOption o (Unit {0}) (λ r. IsScopeOf v.log.profile r.scope)) (sym raising) raises.scope);
  of_profile = subst (λ (n : ℕ). AreOfProfile n m'.floors) (sym profile) (subst (AreOfProfile v.log.profile) (sym floors) raises.of_profile);
}

-- one that goes on working, of a store that worked
pub goes-on-working : (tells : Bool) (v v' : StoreValue) (m m' : Machine Value) (stands : Stands tells v m) → m.failed ≡ false → Inside v' m' → m'.failed
    ≡ false → v'.log.profile ≡ v.log.profile → v'.log.slots ≡ v.log.slots → v'.log.pieces ≡ v.log.pieces
    → ((told : IsTrue tells) → Works (stands.disk told).header v' m') → Stands tells v' m'
goes-on-working tells v v' m m' stands on now on' profile many pieces works = record {
  memory = now.memory;
  machine = now.machine;
  order = now.order;
  in_step = now.in_step;
  gate = now.gate;
  raises = now.raises;
  marks = now.marks;
  job = now.job;
  disk = λ told.
      let d = stands.disk told in
      let c : Working v' m' =
      record {
        header = d.header;
        inside = now;
        on = on';
        profile = profile ∙ d.profile;
        slots = many ∙ d.slots;
        pieces = pieces ∙ d.pieces;
        profile_built = d.profile_built;
        works = works told;
      } in
      record {
        header = d.header;
        profile = c.profile;
        slots = c.slots;
        pieces = c.pieces;
        profile_built = d.profile_built;
        leaves = works-leave v' m' c;
        works = λ _. works told;
      };
}

-- and one that has failed
pub goes-on-failed : (tells : Bool) (v v' : StoreValue) (m m' : Machine Value) (stands : Stands tells v m) → Inside v' m' → m'.failed ≡ true → v'.log.profile
    ≡ v.log.profile → v'.log.slots ≡ v.log.slots → v'.log.pieces ≡ v.log.pieces
    → ((told : IsTrue tells) (image : Image) → LeavesImage v'.disk.areas image → OnFront (IsImageOf (stands.disk told).header image) m') → Stands tells v' m'
goes-on-failed tells v v' m m' stands now failed profile many pieces leaves = record {
  memory = now.memory;
  machine = now.machine;
  order = now.order;
  in_step = now.in_step;
  gate = now.gate;
  raises = now.raises;
  marks = now.marks;
  job = now.job;
  disk = λ told.
      let d = stands.disk told in record {
        header = d.header;
        profile = profile ∙ d.profile;
        slots = many ∙ d.slots;
        pieces = pieces ∙ d.pieces;
        profile_built = d.profile_built;
        leaves = leaves told;
        works = λ on. (let no : true ≡ false = sym failed ∙ on in absurd cc);
      };
}

-- ---- a group begins

no-group : (s : GroupStage) (group : ℕ) (qs : List QueuedValue) → StageFits s group qs → group ≡ 0 → s ≡ NoGroup
no-group NoGroup group qs fits none = refl
no-group Stored group qs fits none = absurd (omega (arith, fits, none))
no-group Turning group qs fits none = absurd (omega (arith, fits, none))
no-group (Storing member extent) group qs fits none = absurd (omega (arith, fits.0, none))

started-works : (header : Header) (v : StoreValue) (m : Machine Value) (size : ℕ) → IsInOrder v.transactions → v.transactions.group ≡ 0 → Works header v m
    → Works header (record v { transactions = record v.transactions { group = size; stage = Storing 0 0 } }) (record m { group = size })
started-works header v m size order none w =
    let is : v.transactions.stage ≡ NoGroup = no-group v.transactions.stage v.transactions.group v.transactions.queue order.stage_fits none in
    let at = subst (λ (s : GroupStage). IsAtStage header w.log.layout (group_of w.log.layout v.transactions m) v.transactions.queue s v.turn
    (record v.disk.areas { status = w.group.rested })) is w.group.at in
    record {
      log = w.log;
      heap = w.heap;
      packed = w.packed;
      group = record {
        rested = w.group.rested;
        rests = w.group.rests;
        at = record { rests = at; parts_are = refl; written = tt };
      };
      job = w.job;
      sound = w.sound;
    }

regrouped : (header : Header) (v : StoreValue) (m : Machine Value) (size : ℕ) → Works header v m → Works header v (record m { group = size })
regrouped header v m size w = record {
  log = w.log;
  heap = w.heap;
  packed = w.packed;
  group = w.group;
  job = w.job;
  sound = w.sound;
}

started-in_step : (v : StoreValue) → IsInOrder v.transactions → IsInStep v → IsInStep (started v)
started-in_step v order in_step =
    by-tests (v.transactions.group == 0) refl (nat_lt 0 (length v.transactions.queue)) refl
  where
    by-tests : (a : Bool) → (v.transactions.group == 0) ≡ a → (b : Bool) → nat_lt 0 (length v.transactions.queue) ≡ b → IsInStep (started v)
    by-tests true none true some =
        let is : v.transactions.stage ≡ NoGroup =
        no-group v.transactions.stage v.transactions.group v.transactions.queue order.stage_fits (grind (arith, nat_tests)) in
        rw (none, some) (record {
          slots = in_step.slots;
          used = in_step.used;
          turns = λ works.
              let was = in_step.turns works in
              record { turning = sym (ap is_turning is) ∙ was.turning; writing = was.writing; turn = was.turn; job = was.job };
        })
    by-tests true none false idle = rw (none, idle) in_step
    by-tests false some b any = rw some in_step

begun-works : (header : Header) (v : StoreValue) (m : Machine Value) (size : ℕ) → IsInOrder v.transactions → Works header v m
    → StandsInMemory (groups.grouped v.transactions) (record m { group = size }) → Works header (started v) (record m { group = size })
begun-works header v m size order w stands =
    by-tests (v.transactions.group == 0) refl (nat_lt 0 (length v.transactions.queue)) refl stands
  where
    by-tests : (a : Bool) → (v.transactions.group == 0) ≡ a → (b : Bool) → nat_lt 0 (length v.transactions.queue) ≡ b
        → StandsInMemory (groups.grouped v.transactions) (record m { group = size }) → Works header (started v) (record m { group = size })
    by-tests true none true some stands =
        let now : StandsInMemory (record v.transactions { group = min (length v.transactions.queue) 16; stage = Storing 0 0 }) (record m { group = size }) = rw
        (none, some) at stands in
        let same : min (length v.transactions.queue) 16 ≡ size = now.group in
        rw (none, some) (subst
        (λ (n : ℕ). Works header (record v { transactions = record v.transactions { group = n; stage = Storing 0 0 } }) (record m { group = size }))
        (sym same)
        (started-works header v m size order (grind (arith, nat_tests)) w))
    by-tests true none false idle stands = rw (none, idle) (regrouped header v m size w)
    by-tests false some b any stands = rw some (regrouped header v m size w)

-- ---- extents apart

-- of what is out, one in the middle is none of those behind it
pub out-middle : (us : List Usage) (xs ys : List ℕ) (n : ℕ) → AreOut us (xs ++ n ∷ ys) → IsOut us n × AllByRecursion (λ (k : ℕ). k ≢ n) ys
out-middle us [] ys n out = (out.each.0, out.distinct.0)
out-middle us (x ∷ xs) ys n out = out-middle us xs ys n (record { each = out.each.1; distinct = out.distinct.1 })

all-numbered : (us : List Usage) (ns : List ℕ) → AllByRecursion (IsOut us) ns → AllByRecursion (λ (k : ℕ). 0 < k) ns
all-numbered us [] out = tt
all-numbered us (n ∷ ns) out = (let low = (out.0).low in omega (arith, low), all-numbered us ns out.1)

-- ---- a device call of the group

pub commit-is : (es : List Entry) (body : Body) → IsCommitOf es body → body ≡ CommitBody (record { items = es })
commit-is es (CommitBody members) is = λ i. CommitBody (record { items = is i })
commit-is es (Archived run) is = absurd is
commit-is es (Reclaimed anchors) is = absurd is
commit-is es (Floor relation floor) is = absurd is

-- the call that the store makes is the group's next one, and it answers so
pub record Goes (v : StoreValue) (m : Machine Value) (c : Working v m) (answer : Result (Unit {0}) DeviceFault) (old new : Areas) : Type 0 where
  pub stage : turns.Stage
  pub at : turns.IsAt c.header c.works.log.layout (group_in v m c) stage old
  pub sound : AreSound old
  pub bytes : List ℕ
  pub long : length bytes ≡ 511
  pub spelled : IsSpelled c.header.profile (length c.works.log.layout.slots) bytes (group_in v m c).slot
  pub call : turns.IsCallOf c.works.log.layout bytes stage answer old new
  pub some : 0 < v.transactions.group

-- a store with these parts on the disk of another
abbrev with_parts : StoreValue → StoreValue → TransactionsValue → LogState → Option TurnState → StoreValue
with_parts v new transactions log turn = record v { transactions = transactions; log = log; turn = turn; disk = new.disk }

module _ (v new : StoreValue) (m : Machine Value) (c : Working v m) where
  abbrev header : Header
  header = c.header

  abbrev w : Works c.header v m
  w = c.works

  abbrev group : Group
  group = group_in v m c

  -- a refused call leaves what a stop within it leaves
  goes-leaves : (gate : Gate) (fault : DeviceFault) (old new : Areas) → (goes : Goes v m c (Err fault) old new)
      → (joining.MayOpenInCall goes.stage → gate ≡ MayBeOpen OfGroup) → (image : Image) → LeavesImage new image
      → OnFront (IsImageOf header image) (steps.gated m gate)
  goes-leaves gate fault old new goes opens image left =
      joining.leaves_within v m c goes.some
      goes.bytes goes.long goes.spelled gate goes.stage (Err fault) old new image opens goes.at goes.sound goes.call left

  -- one that is made leads on
  goes-on : (old new : Areas) → (goes : Goes v m c (Ok tt) old new) → turns.IsAt header w.log.layout group (turns.stage_after goes.stage) new
  goes-on old new goes =
      joining.leads v m c goes.some
      goes.bytes goes.long goes.spelled goes.stage old new goes.at goes.sound goes.call

  -- the bytes that spell the group's slot
  slot-bytes : 0 < v.transactions.group → (bytes : List ℕ) × (length bytes ≡ 511) × IsSpelled header.profile (length w.log.layout.slots) bytes group.slot
  slot-bytes some =
      let room = room-left v m c some in (
        spelling header.profile group.slot,
        joining.long v m c some,
        joining.spelled v m c some,
      )

  -- the works of the store after a step that changes its stage alone
  staged-works : (s : GroupStage) (log : LogState) (turn : Option TurnState) → log.used ≡ v.log.used → AreSound new.disk.areas → (rested : AreaState)
      → IsRested header w.log.layout (turn_of v.job) rested new.disk.areas.status
      → IsAtStage header w.log.layout group v.transactions.queue s turn (record new.disk.areas { status = rested })
      → HasJob header w.log.layout w.log.reading m.published v.transactions.reserved v.job new.disk.areas
      → Works header (with_parts v new (groups.at_stage s v.transactions) log turn) m
  staged-works s log turn used sound rested rests at has = record {
    log = record {
      layout = w.log.layout;
      reading = w.log.reading;
      laid = w.log.laid;
      stands = w.log.stands;
      built = w.log.built;
      used = used ∙ w.log.used;
      archived = w.log.archived;
      reclaimed = w.log.reclaimed;
      runs_end = w.log.runs_end;
    };
    heap = w.heap;
    packed = w.packed;
    group = record {
      rested = rested;
      rests = rests;
      at = at;
    };
    job = has;
    sound = sound;
  }

  -- ---- an extent is written

  module _ (answer : Result (Unit {0}) DeviceFault) (member extent : ℕ) (is : v.transactions.stage
      ≡ Storing member extent) (low : member < v.transactions.group) (stored : StoredExtent)
      (there : groups.extent_at (slice_get v.transactions.queue member) extent ≡ Some stored) (old next : Areas) (sound : AreSound old)
      (at : IsAtStage header w.log.layout group v.transactions.queue v.transactions.stage v.turn old)
      (call : Writes Heap (extent_start stored.extent) stored.image answer old next) where
    abbrev all : List Extent
    all = extents_of group.members

    abbrev k : ℕ
    k = written_before v.transactions.queue member extent

    found : IsNext (drop k all) stored
    found = next-is v.transactions.group m.published v.transactions.queue m.queue member extent stored w.packed low there

    storing : turns.IsStoring header w.log.layout group (take k all) (found.extent ∷ found.rest) old
    storing =
        let there' = subst (λ (s : GroupStage). IsAtStage header w.log.layout group v.transactions.queue s v.turn old) is at in
        subst (λ (es : List Extent). turns.IsStoring header w.log.layout group (take k all) es old) found.is there'

    some : 0 < v.transactions.group
    some = omega (arith, low)

    abbrev wrote-goes : Goes v m c answer old next
    wrote-goes =
        let bytes = slot-bytes some in record {
          stage = turns.Storing (take k all) (found.extent ∷ found.rest);
          at = storing;
          sound = sound;
          bytes = bytes.0;
          long = bytes.1;
          spelled = bytes.2;
          call = subst (λ (n : ℕ). Writes Heap (extent_start n) (extent_bytes found.extent) answer old next) (sym found.number)
              (subst (λ (image : List ℕ). Writes Heap (extent_start stored.extent) image answer old next) (sym found.bytes) call);
          some = some;
        }

    wrote-at : turns.IsStoring header w.log.layout group (take k all ++ found.extent ∷ []) found.rest next
        → IsAtStage header w.log.layout group v.transactions.queue (groups.stage_behind v.transactions.queue v.transactions.stage) v.turn next
    wrote-at on =
        let behind = behind-is v.transactions.queue member extent stored (slice_get v.transactions.queue member) refl there in
        let then : turns.IsStoring header w.log.layout group (take (suc k) all) (drop (suc k) all) next =
        subst (λ (es : List Extent). turns.IsStoring header w.log.layout group (take (suc k) all) es next)
        (sym (drop-next k all found.extent found.rest found.is))
        (subst (λ (es : List Extent). turns.IsStoring header w.log.layout group es found.rest next) (sym (take-next k all found.extent found.rest found.is)) on)
        in
        let there' : IsAtStage header w.log.layout group v.transactions.queue (Storing behind.member behind.extent) v.turn next =
        subst (λ (n : ℕ). turns.IsStoring header w.log.layout group (take n all) (drop n all) next) (sym behind.written_is) then in
        let stage : groups.stage_behind v.transactions.queue v.transactions.stage ≡ Storing behind.member behind.extent =
        ap (groups.stage_behind v.transactions.queue) is ∙ behind.is in
        subst (λ (s : GroupStage). IsAtStage header w.log.layout group v.transactions.queue s v.turn next) (sym stage) there'

  -- ---- the heap is synced

  module _ (answer : Result (Unit {0}) DeviceFault) (member extent : ℕ) (is : v.transactions.stage ≡ Storing member extent) (past : member
      ≡ v.transactions.group) (some : 0 < v.transactions.group)
      (old next : Areas) (sound : AreSound old) (at : IsAtStage header w.log.layout group v.transactions.queue v.transactions.stage v.turn old)
      (call : Syncs Heap answer old next) where
    abbrev whole : List Extent
    whole = extents_of group.members

    abbrev at_end : ℕ
    at_end = written_before v.transactions.queue member extent

    none : drop at_end whole ≡ []
    none =
        let named = joining.numbers v m c some in
        let many : length whole ≡ length (flat_map numbers_of (take v.transactions.group v.transactions.queue)) =
        sym (length-mapped (λ (e : Extent). e.number) whole) ∙ ap (λ (l : List ℕ). length l) named in
        let same : length (flat_map numbers_of (take member v.transactions.queue))
        ≡ length (flat_map numbers_of (take v.transactions.group v.transactions.queue)) =
        ap (λ (n : ℕ). length (flat_map numbers_of (take n v.transactions.queue))) past in
        none-left at_end whole (omega (arith, many, same))

    abbrev synced-goes : Goes v m c answer old next
    synced-goes =
        let bytes = slot-bytes some in
        let there = subst (λ (s : GroupStage). IsAtStage header w.log.layout group v.transactions.queue s v.turn old) is at in record {
          stage = turns.Storing (take at_end whole) [];
          at = subst (λ (es : List Extent). turns.IsStoring header w.log.layout group (take at_end whole) es old) none there;
          sound = sound;
          bytes = bytes.0;
          long = bytes.1;
          spelled = bytes.2;
          call = call;
          some = some;
        }

  -- ---- calls of the heap beside a job

  -- an extent of the group is beside the live chains and beside what is out for a job
  record IsApart (e : Extent) : Type 0 where
    pub is : IsExtent e
    pub live : AreBeside e.number (live w.log.layout)
    pub others : AllByRecursion (λ (k : ℕ). k ≢ e.number) v.transactions.reserved

  extent-apart : 0 < v.transactions.group → (k : ℕ) (e : Extent) (rest : List Extent) → drop k (extents_of group.members) ≡ e ∷ rest → IsApart e
  extent-apart some k e rest found =
      let all : List Extent = extents_of group.members in
      let room = room-left v m c some in
      let named = joining.numbers v m c some in
      let number : Extent → ℕ = λ f. f.number in
      let split : take k all ++ e ∷ rest ≡ all = ap (λ (l : List Extent). take k all ++ l) (sym found) ∙ take-append-drop k all in
      let behind : List ℕ = flat_map numbers_of (drop v.transactions.group v.transactions.queue) in
      let numbers : flat_map numbers_of v.transactions.queue ≡ (map number (take k all) ++ e.number ∷ map number rest) ++ behind =
      numbers-split v.transactions.group v.transactions.queue
      ∙ ap (λ (l : List ℕ). l ++ behind) (sym named ∙ ap (map number) (sym split) ∙ map-append number (take k all) (e ∷ rest)) in
      let whole : flat_map numbers_of v.transactions.queue ++ v.transactions.reserved ≡ map number (take k all) ++ e.number
      ∷ ((map number rest ++ behind) ++ v.transactions.reserved) =
      ap (λ (l : List ℕ). l ++ v.transactions.reserved) numbers
      ∙ ap (λ (l : List ℕ). l ++ v.transactions.reserved) (append_assoc (map number (take k all)) (e.number ∷ map number rest) behind)
      ∙ append_assoc (map number (take k all)) (e.number ∷ (map number rest ++ behind)) v.transactions.reserved in
      let middle =
      out-middle v.transactions.usages (map number (take k all)) ((map number rest ++ behind)
      ++ v.transactions.reserved) e.number (subst (AreOut v.transactions.usages) whole c.inside.order.out) in
      let each : AllByRecursion IsExtent (take k all ++ e ∷ rest) =
      subst (AllByRecursion IsExtent) (sym split) (joining.group_are v m c some) in
      record {
        is = (all_of_back IsExtent (take k all) (e ∷ rest) each).0;
        live = beside-out v.transactions.usages e.number middle.0 (live w.log.layout) (live_extents_are header w.log.layout w.log.reading w.log.laid)
            w.heap.kept;
        others = all_of_back (λ (k : ℕ). k ≢ e.number) (map number rest ++ behind) v.transactions.reserved middle.1;
      }

  -- what a refused write of an extent leaves
  wrote-leaves : (member extent : ℕ) → v.transactions.stage ≡ Storing member extent → member < v.transactions.group → (stored : StoredExtent)
      → groups.extent_at (slice_get v.transactions.queue member) extent ≡ Some stored
      → Writes Heap (extent_start stored.extent) stored.image (Err (record {})) v.disk.areas new.disk.areas
      → (image : Image) → LeavesImage new.disk.areas image → OnFront (IsImageOf header image) m
  wrote-leaves member extent is low stored there call image left =
      let some : 0 < v.transactions.group = omega (arith, low) in
      let found : IsNext (drop (written_before v.transactions.queue member extent) (extents_of group.members)) stored =
      next-is v.transactions.group m.published v.transactions.queue m.queue member extent stored w.packed low there in
      let k : ℕ = written_before v.transactions.queue member extent in
      let before = (left_by_write Heap (extent_start stored.extent) stored.image (Err (record {})) v.disk.areas new.disk.areas call w.sound).each image left in
      let torn : AreaState = loosened (extent_start stored.extent) (length stored.image) v.disk.areas.heap.bytes v.disk.areas.heap in
      let apart = extent-apart some k found.extent found.rest found.is in
      let beside : IsBeside found.extent.number v.disk.areas.heap torn =
      subst (λ (n : ℕ). IsBeside found.extent.number v.disk.areas.heap
      (loosened (extent_start n) (length stored.image) v.disk.areas.heap.bytes v.disk.areas.heap)) found.number
      (subst (λ (bytes : List ℕ). IsBeside found.extent.number v.disk.areas.heap
      (loosened (extent_start found.extent.number) (length bytes) v.disk.areas.heap.bytes v.disk.areas.heap)) found.bytes
      (torn-beside found.extent apart.is v.disk.areas.heap (w.sound Heap))) in
      by-job v m c (record v.disk.areas { heap = torn }) image v.job refl
      (job-beside-heap header w.log.layout w.log.reading m.published v.transactions.reserved v.job v.disk.areas torn found.extent.number beside apart.live
      apart.others w.job) before
      (λ still. goes-leaves m.gate (record {}) v.disk.areas new.disk.areas
      (wrote-goes (Err (record {})) member extent is low stored there v.disk.areas new.disk.areas w.sound (now-at v m c still) call) (λ no. absurd no) image
      left)

  -- what is left by a call that changed nothing
  same-leaves : new.disk.areas ≡ v.disk.areas → (image : Image) → LeavesImage new.disk.areas image → OnFront (IsImageOf header image) m
  same-leaves same image left =
      works-leave v m c image (subst (λ (a : Areas). LeavesImage a image) same left)

  -- the store after a call of the heap that was made
  heap-works : (s : GroupStage) → AreSound new.disk.areas → (heap : AreaState) → new.disk.areas ≡ record v.disk.areas { heap = heap } → (n : ℕ)
      → IsBeside n v.disk.areas.heap heap → AreBeside n (live w.log.layout) → AllByRecursion (λ (k : ℕ). k ≢ n) v.transactions.reserved
      → IsAtStage header w.log.layout group v.transactions.queue s v.turn (record new.disk.areas { status = w.group.rested })
      → Works header (with_parts v new (groups.at_stage s v.transactions) v.log v.turn) m
  heap-works s sound heap is n beside apart others at =
      staged-works s v.log v.turn refl sound w.group.rested
      (subst (λ (a : Areas). IsRested header w.log.layout (turn_of v.job) w.group.rested a.status) (sym is) w.group.rests) at
      (subst (λ (a : Areas). HasJob header w.log.layout w.log.reading m.published v.transactions.reserved v.job a) (sym is)
      (job-beside-heap header w.log.layout w.log.reading m.published v.transactions.reserved v.job v.disk.areas heap n beside apart others w.job))

  -- so after the write of the group's next extent
  heap-wrote : (member extent : ℕ) → member < v.transactions.group → (stored : StoredExtent) → groups.extent_at (slice_get v.transactions.queue member) extent
      ≡ Some stored
      → Writes Heap (extent_start stored.extent) stored.image (Ok tt) v.disk.areas new.disk.areas → (s : GroupStage) → AreSound new.disk.areas
      → IsAtStage header w.log.layout group v.transactions.queue s v.turn (record new.disk.areas { status = w.group.rested })
      → Works header (with_parts v new (groups.at_stage s v.transactions) v.log v.turn) m
  heap-wrote member extent low stored there call s sound at =
      let some : 0 < v.transactions.group = omega (arith, low) in
      let k : ℕ = written_before v.transactions.queue member extent in
      let found : IsNext (drop k (extents_of group.members)) stored =
      next-is v.transactions.group m.published v.transactions.queue m.queue member extent stored w.packed low there in
      let apart = extent-apart some k found.extent found.rest found.is in
      let heap : AreaState = written (extent_start stored.extent) stored.image v.disk.areas.heap in
      let beside : IsBeside found.extent.number v.disk.areas.heap heap =
      subst (λ (n : ℕ). IsBeside found.extent.number v.disk.areas.heap (written (extent_start n) stored.image v.disk.areas.heap)) found.number
      (subst (λ (bytes : List ℕ). IsBeside found.extent.number v.disk.areas.heap (written (extent_start found.extent.number) bytes v.disk.areas.heap))
      found.bytes
      (write-beside found.extent apart.is v.disk.areas.heap (w.sound Heap))) in
      heap-works s sound heap call.written found.extent.number beside apart.live apart.others at

  -- and after a sync of the heap
  heap-synced : Syncs Heap (Ok tt) v.disk.areas new.disk.areas → (s : GroupStage) → AreSound new.disk.areas
      → IsAtStage header w.log.layout group v.transactions.queue s v.turn (record new.disk.areas { status = w.group.rested })
      → Works header (with_parts v new (groups.at_stage s v.transactions) v.log v.turn) m
  heap-synced call s sound at =
      heap-works s sound (synced v.disk.areas.heap) call.synced 0 (sync-beside v.disk.areas.heap (w.sound Heap))
      (beside-none (live w.log.layout) (live_extents_are header w.log.layout w.log.reading w.log.laid))
      (none-number v.transactions.reserved (all-numbered v.transactions.usages v.transactions.reserved (reserved-out v.transactions c.inside.order).each)) at

  -- ---- the slot is begun, or goes on

  abbrev named : Slot
  named = group.slot

  abbrev slot-goes : (answer : Result (Unit {0}) DeviceFault) (t : TurnState) → IsTurnOf header w.log.layout group t v.disk.areas → 0 < v.transactions.group
      → IsSlotCall t.number t.body t.stage answer v.disk.areas new.disk.areas → Goes v m c answer v.disk.areas new.disk.areas
  slot-goes answer t is some call = record {
    stage = turns.Turning t.stage;
    at = is.at;
    sound = w.sound;
    bytes = t.body;
    long = is.long;
    spelled = is.spelled;
    call = subst (λ (n : ℕ). IsSlotCall n t.body t.stage answer v.disk.areas new.disk.areas) is.number call;
    some = some;
  }

  -- the slot that is begun is the group's
  begun-turn : (body : Body) → IsCommitOf (groups.entries v.transactions) body
      → IsTurnAt header w.log.layout named (laid_out w.log.layout group) slots.Begun v.disk.areas → 0 < v.transactions.group
      → IsTurnOf header w.log.layout group (record {
        number = v.log.used;
        body = spelling v.log.profile (record { number = v.log.used; body = body });
        stage = slots.Begun;
      }) v.disk.areas
  begun-turn body commit at some =
      let room = room-left v m c some in
      let number = sym w.log.used in
      let what = sym (commit-is (groups.entries v.transactions) body commit) in
      let same : Path Slot named (record { number = v.log.used; body = body }) = λ i. record { number = number i; body = what i } in
      let bytes : spelling header.profile named ≡ spelling v.log.profile (record { number = v.log.used; body = body }) = let p =
      sym c.profile in λ i. spelling (p i) (same i) in
      record {
        number = w.log.used;
        long = subst (λ (l : List ℕ). length l ≡ 511) bytes (joining.long v m c some);
        spelled = subst (λ (l : List ℕ). IsSpelled header.profile (length w.log.layout.slots) l named) bytes
            (joining.spelled v m c some);
        at = at;
      }

  -- ---- the group is published

  -- what may come next still may, behind the group
  next-product : (some : 0 < v.transactions.group) (p : Product) → MayBeNext w.log.layout w.log.reading m.published p
      → MayBeNext (laid_out w.log.layout group) (with_group w.log.reading (turns.members_of group)) (m.published ++ take m.group m.queue) p
  next-product some p next =
      let room = room-left v m c some in
      let joins = joining.joins v m c some in
      let space = has_room header w.log.layout w.log.reading m.published (take v.transactions.group m.queue) m.floors group w.log.laid w.log.stands joins in
      let grown : last m.published ≤ last (m.published ++ take v.transactions.group m.queue) =
      (let up =
      last-later (last m.published) (take v.transactions.group m.queue)
      (rising-from_following IsValue m.published (take v.transactions.group m.queue) joins.is_group.may) in
      omega (arith, up, last_after-append 0 m.published (take v.transactions.group m.queue))) in
      let same : archived_upto (with_group w.log.reading (turns.members_of group)) ≡ archived_upto w.log.reading =
      same_archived w.log.reading m.published m.floors w.log.stands (turns.members_of group) (take v.transactions.group m.queue) joins.is_group space in
      let mark : reclaimed_upto (with_group w.log.reading (turns.members_of group)) ≡ reclaimed_upto w.log.reading =
      reclaim_mark-append 0 w.log.reading.log (Commits (map (λ (x : Member). x.head) (turns.members_of group)) ∷ []) in
      let by-kind : (q : Product) → MayBeNext w.log.layout w.log.reading m.published q
      → MayBeNext (laid_out w.log.layout group) (with_group w.log.reading (turns.members_of group)) (m.published ++ take v.transactions.group m.queue) q =
      next-by joins space grown same mark in
      subst (λ (n : ℕ). MayBeNext (laid_out w.log.layout group) (with_group w.log.reading (turns.members_of group)) (m.published
      ++ take n m.queue) p) c.inside.memory.group (by-kind p next)
    where
      next-by : (joins : turns.MayJoin header w.log.layout w.log.reading m.published (take v.transactions.group m.queue) group) → HasRoom w.log.reading
          → last m.published ≤ last (m.published ++ take v.transactions.group m.queue) → archived_upto (with_group w.log.reading (turns.members_of group))
          ≡ archived_upto w.log.reading
          → reclaimed_upto (with_group w.log.reading (turns.members_of group)) ≡ reclaimed_upto w.log.reading → (q : Product)
          → MayBeNext w.log.layout w.log.reading m.published q
          → MayBeNext (laid_out w.log.layout group) (with_group w.log.reading (turns.members_of group)) (m.published ++ take v.transactions.group m.queue) q
      next-by joins space grown same mark (OfRun run) next = record {
        plan = archive-plan-stays w.log.reading m.published (take v.transactions.group m.queue) m.floors (turns.members_of group) w.log.stands joins.is_group
            space run.entry.upto run.records next.by_last next.plan;
        later = omega (arith, same, next.later);
        by_last = omega (arith, grown, next.by_last);
        stored = next.stored;
        behind = next.behind ∙ ap (row_end 0)
            (sym (runs_more header w.log.layout w.log.reading m.published (take v.transactions.group m.queue) m.floors group w.log.laid w.log.stands joins));
        in_range = next.in_range;
      }
      next-by joins space grown same mark (OfFloor scope floor) next = record {
        scope_is = next.scope_is;
        rises = λ relation covered. (let same : floor_of (with_group w.log.reading (turns.members_of group)).log relation
            ≡ floor_of w.log.reading.log relation =
            ap (λ (f : ℕ → ℕ). f relation) (floors-append (λ q. 0) w.log.reading.log (Commits (map (λ (x : Member). x.head) (turns.members_of group)) ∷ [])) in
            let above = next.rises relation covered in omega (arith, same, above));
        by_last = omega (arith, grown, next.by_last);
        in_range = next.in_range;
      }
      next-by joins space grown same mark (OfAnchors a) next = record {
        plan = reclaim-plan-stays w.log.reading m.published (take v.transactions.group m.queue) m.floors (turns.members_of group) w.log.stands joins.is_group
            space a.olds next.plan;
        upto = next.upto ∙ sym same;
        later = omega (arith, same, mark, next.later);
        chain = next.chain;
        in_range = next.in_range;
      }

  published-works : 0 < v.transactions.group → is_turning v.transactions.stage ≡ true → turn_of v.job ≡ None → (number : ℕ) → number ≡ length w.log.layout.slots
      → AreSound new.disk.areas → (status : AreaState) → new.disk.areas ≡ record v.disk.areas { status = status }
      → IsTurnAt header w.log.layout named (laid_out w.log.layout group) slots.Opened new.disk.areas
      → Works header (with_parts v new (groups.published v.transactions) (record v.log { used = number + 1; writing = false }) None) (steps.group_published m)
  published-works some turning still number last sound status is at =
      let room = room-left v m c some in
      let joins = joining.joins v m c some in
      let space = has_room header w.log.layout w.log.reading m.published (take v.transactions.group m.queue) m.floors group w.log.laid w.log.stands joins in
      let size : v.transactions.group ≡ m.group = c.inside.memory.group in
      record {
        log = record {
          layout = laid_out w.log.layout group;
          reading = with_group w.log.reading (turns.members_of group);
          laid = joining.laid_then v m c some;
          stands = subst (λ (n : ℕ). StandsFor (with_group w.log.reading (turns.members_of group)) (m.published ++ take n m.queue) m.floors) size
              (joining.stands_then v m c some);
          built = joining.built_then v m c some;
          used = let long : length (w.log.layout.slots ++ named ∷ []) ≡ length w.log.layout.slots + 1 =
              length-append w.log.layout.slots (named ∷ []) in omega (arith, long, last);
          archived =
              w.log.archived ∙ sym (same_archived w.log.reading m.published m.floors w.log.stands (turns.members_of group) (take v.transactions.group m.queue)
              joins.is_group space);
          reclaimed = w.log.reclaimed ∙ sym (reclaim_mark-append 0 w.log.reading.log (Commits (map (λ (x : Member). x.head) (turns.members_of group)) ∷ []));
          runs_end =
              w.log.runs_end ∙ ap (row_end 0)
              (sym (runs_more header w.log.layout w.log.reading m.published (take v.transactions.group m.queue) m.floors group w.log.laid w.log.stands joins));
        };
        heap = record {
          kept = subst (AllKept (groups.published v.transactions).usages) (sym (live_more w.log.layout group))
              (all-published v.transactions.usages (flat_map numbers_of (take v.transactions.group v.transactions.queue)) (live w.log.layout)
              (extents_of group.members)
              (joining.out v m c some)
              (joining.numbers v m c some)
              w.heap.kept);
          times = published-times v.transactions w.log.layout m c.inside.order w.heap.times_long w.heap.kept w.heap.times;
          times_long = chains-long v.transactions.times (take v.transactions.group v.transactions.queue) ∙ w.heap.times_long;
          facts = λ key.
              behind-group v.transactions m c.inside.memory turning key
              ∙ ap (λ (ws : List (TimedWrite Value)). ws ++ histories.writes_of (take v.transactions.group m.queue) key) (w.heap.facts key)
              ∙ sym (more_facts w.log.reading m.published m.floors w.log.stands (turns.members_of group) (take v.transactions.group m.queue) joins.is_group
              space key);
        };
        packed = subst (λ (n : ℕ). AllPacked (m.published
            ++ take n m.queue) (drop v.transactions.group v.transactions.queue) (drop n m.queue)) size
            (packed-rest v.transactions.group m.published v.transactions.queue m.queue w.packed);
        group = record {
          rested = new.disk.areas.status;
          rests = rested-now header (laid_out w.log.layout group) (turn_of v.job) new.disk.areas.status still;
          at = record { status = at.status; parts = at.new_parts };
        };
        job = job-moves header w.log.layout (laid_out w.log.layout group) w.log.reading (with_group w.log.reading (turns.members_of group)) m.published
            (m.published ++ take m.group m.queue) v.transactions.reserved v.job new.disk.areas still (next-product some)
            (subst (λ (a : Areas). HasJob header w.log.layout w.log.reading m.published v.transactions.reserved v.job a) (sym is)
            (job-beside-status header w.log.layout w.log.reading m.published v.transactions.reserved v.job v.disk.areas status still w.job));
        sound = sound;
      }

-- ---- the store after a step

abbrev Ends : Bool → Machine Value → Result Did PumpFault → StoreValue → Type 0
Ends tells m answer v = (after : Machine Value) × Run IsValue m (ends_in m.gate answer) after × Stands tells v after

same-store : (v new : StoreValue) (transactions : TransactionsValue) (log : LogState) (turn : Option TurnState) → KeepsJob v new → new.transactions
    ≡ transactions → new.log ≡ log → new.turn ≡ turn → with_parts v new transactions log turn ≡ new
same-store v new transactions log turn keeps a b c =
    let x = sym a in let y = sym b in let z = sym c in let j = sym keeps.job in let k = sym keeps.archived in let l =
    sym keeps.runs_end in let n = sym keeps.archive in
    λ i. record { transactions = x i; log = y i; turn = z i; job = j i; archived = k i; runs_end = l i; archive = n i; disk = new.disk }

pub broken-order : (v : TransactionsValue) → IsInOrder v → IsInOrder (groups.broken v)
broken-order v order = order-beside v v.opened v.slots v.used v.floors true order.room order.slots_few order

-- a machine that has failed is one
pub broken-machine : (m : Machine Value) (gate : Gate) → IsMachine IsValue m → IsMachine IsValue (steps.broken (steps.gated m gate))
broken-machine m gate machine = record {
  history = machine.history;
  group_few = machine.group_few;
  group_queued = machine.group_queued;
  floors_reached = machine.floors_reached;
  snapshots = machine.snapshots;
  raising = machine.raising;
}

-- a refused call, which leaves the gate so
fails-parts : (tells : Bool) (v new : StoreValue) (m : Machine Value) → (stands : Stands tells v m) → (works : m.failed ≡ false)
    → (gate : Gate) (log : LogState) (turn : Option TurnState) → log.profile ≡ v.log.profile → log.slots ≡ v.log.slots → log.pieces ≡ v.log.pieces → log.used
    ≡ v.log.used
    → ((told : IsTrue tells) (image : Image) → LeavesImage new.disk.areas image → OnFront (IsImageOf (stands.disk told).header image) (steps.gated m gate))
    → Stands tells (with_parts v new (groups.broken v.transactions) log turn) (steps.broken (steps.gated m gate))
fails-parts tells v new m stands works gate log turn same many pieces used leaves =
    let after : Machine Value = steps.broken (steps.gated m gate) in
    goes-on-failed tells v (with_parts v new (groups.broken v.transactions) log turn) m after stands (record {
      memory = breaks v.transactions (steps.gated m gate) (regated v.transactions m gate stands.memory);
      machine = broken-machine m gate stands.machine;
      order = broken-order v.transactions stands.order;
      in_step = record { slots = many ∙ stands.in_step.slots; used = used ∙ stands.in_step.used; turns = λ no. absurd cc };
      gate = λ no. absurd cc;
      raises = raises-so v (with_parts v new (groups.broken v.transactions) log turn) m after stands.raises same refl refl stands.raises.is;
      marks = stands.marks;
      job = stands.job;
    }) refl same many pieces leaves

fails-step : (tells : Bool) (v new : StoreValue) (m : Machine Value) (why : PumpFault) → why ≡ pump.Failed → KeepsJob v new → (stands : Stands tells v m)
    → (works : m.failed ≡ false) → (log : LogState) (turn : Option TurnState) → log.profile ≡ v.log.profile → log.slots ≡ v.log.slots → log.pieces
    ≡ v.log.pieces → log.used ≡ v.log.used
    → new.transactions ≡ groups.broken v.transactions → new.log ≡ log → new.turn ≡ turn
    → ((told : IsTrue tells) (image : Image) → LeavesImage new.disk.areas image
    → OnFront (IsImageOf (stands.disk told).header image) (steps.gated m (gate_left m.gate))) → Ends tells m (Err why) new
fails-step tells v new m why is keeps stands works log turn same many pieces used a b c leaves =
    let after : Machine Value = steps.broken (steps.gated m (gate_left m.gate)) in
    subst (λ (e : PumpFault). Ends tells m (Err e) new) (sym is) (
      after,
      breaks-run m works m.gate refl,
      subst (λ (x : StoreValue). Stands tells x after) (same-store v new (groups.broken v.transactions) log turn keeps a b c)
          (fails-parts tells v new m stands works (gate_left m.gate) log turn same many pieces used leaves),
    )

-- where a refused call leaves the gate so
left-so : (P : Machine Value → Type 0) (m : Machine Value) → gate_left m.gate ≡ m.gate → P m → P (steps.gated m (gate_left m.gate))
left-so P m same p = subst (λ (g : Gate). P (steps.gated m g)) (sym same) p

-- a call that is made, and tells nothing of the machine
stays-step : (tells : Bool) (v new : StoreValue) (m : Machine Value) (said what : Did) → KeepsJob v new → ends_in m.gate (Ok what) ≡ [] → said ≡ what
    → (transactions : TransactionsValue) (log : LogState) (turn : Option TurnState) → new.transactions ≡ transactions → new.log ≡ log → new.turn ≡ turn
    → Stands tells (with_parts v new transactions log turn) m → Ends tells m (Ok said) new
stays-step tells v new m said what keeps none is transactions log turn a b c parts =
    subst (λ (d : Did). Ends tells m (Ok d) new) (sym is) (
      m,
      subst (λ (es : List (Event Value)). Run IsValue m es m) (sym none) refl,
      subst (λ (x : StoreValue). Stands tells x m) (same-store v new transactions log turn keeps a b c) parts,
    )

-- ---- an extent

pub record IsStoring (s : GroupStage) (group : ℕ) : Type 0 where
  pub member : ℕ
  pub extent : ℕ
  pub is : s ≡ Storing member extent
  pub low : member < group

storing-is : (s : GroupStage) (group : ℕ) → groups.step_of s group ≡ next.WriteExtent → IsStoring s group
storing-is NoGroup group asks = absurd cc
storing-is Stored group asks = absurd cc
storing-is Turning group asks = absurd cc
storing-is (Storing member extent) group asks = elim (cases_lt member group) [
  | inl low ↦ record { member = member; extent = extent; is = refl; low = low }
  | inr past ↦ let no : nat_lt member group ≡ false =
      grind (arith, nat_tests) in let other : groups.step_of (Storing member extent) group ≡ next.SyncHeap = rw no refl in absurd cc
]

behind-turning : (qs : List QueuedValue) (member extent : ℕ) (o : Option QueuedValue) → is_turning (groups.place_behind o member extent) ≡ false
behind-turning qs member extent None = refl
behind-turning qs member extent (Some q) =
    elim (nat_lt (extent + 1) (length q.stored)) as (λ (b : Bool). is_turning (cond b (Storing member (extent + 1)) (Storing (member + 1) 0))
    ≡ false) [ true ↦ refl | false ↦ refl ]

-- a call of the status area changes that area alone
status-alone : (old new : Areas) (status : AreaState) → new ≡ record old { status = status } → new ≡ record old { status = new.status }
status-alone old new status is = is ∙ ap (λ (a : Areas). record old { status = a.status }) (sym is)

pub slot-alone : (stage : SlotStage) (number : ℕ) (body : List ℕ) (old new : Areas) → IsSlotCall number body stage (Ok tt) old new → new
    ≡ record old { status = new.status }
slot-alone slots.Begun number body old new call = status-alone old new _ call.written
slot-alone slots.BodyWritten number body old new call = status-alone old new _ call.synced
slot-alone slots.BodySynced number body old new call = status-alone old new _ call.written
slot-alone slots.GateWritten number body old new call = status-alone old new _ call.synced
slot-alone slots.Opened number body old new call = absurd call

wrote-step : (tells : Bool) (v new : StoreValue) (answer : Result Did PumpFault) (m : Machine Value) → Stands tells v m → (works : m.failed ≡ false)
    → groups.due v.transactions ≡ next.WriteExtent → (IsTrue tells → AreSound new.disk.areas)
    → (o : Option StoredExtent) → groups.next_extent v.transactions ≡ o → MatchOption o ⊥ (λ stored. WritesExtent tells stored v answer new)
    → Ends tells m answer new
wrote-step tells v new answer m stands works asks sound None found takes = absurd takes
wrote-step tells v new answer m stands works asks sound (Some stored) found takes =
    let at = storing-is v.transactions.stage v.transactions.group asks in
    let there : groups.extent_at (slice_get v.transactions.queue at.member) at.extent ≡ Some stored =
    subst (λ (s : GroupStage). groups.extent_of v.transactions.queue s ≡ Some stored) at.is found in
    by-answer answer at there takes
  where
    by-answer : (answer : Result Did PumpFault) (at : IsStoring v.transactions.stage v.transactions.group)
        → groups.extent_at (slice_get v.transactions.queue at.member) at.extent ≡ Some stored → WritesExtent tells stored v answer new → Ends tells m answer new
    by-answer (Err why) at there takes =
        fails-step tells v new m why takes.steps.answer.0 takes.steps.job stands works v.log v.turn refl refl refl refl takes.steps.answer.1 takes.steps.log
        takes.steps.turn
        (λ told image left. let c = working tells v m stands works told in
        left-so (λ (x : Machine Value). OnFront (IsImageOf c.header image) x) m
        (gate-stays v m stands.in_step stands.memory.failed stands.gate works (ap is_turning at.is))
        (wrote-leaves v new m c at.member at.extent at.is at.low stored there (takes.call.areas told) image left))
    by-answer (Ok said) at there takes =
        let stage = groups.stage_behind v.transactions.queue v.transactions.stage in
        let turning : is_turning stage ≡ is_turning v.transactions.stage =
        ap (λ (s : GroupStage). is_turning (groups.stage_behind v.transactions.queue s)) at.is
        ∙ behind-turning v.transactions.queue at.member at.extent (slice_get v.transactions.queue at.member) ∙ sym (ap is_turning at.is) in
        let memory =
        restaged v.transactions m stage stands.memory (λ _. omega (arith, at.low)) (λ turns. let no : true ≡ false = sym turns ∙ turning
        ∙ ap is_turning at.is in absurd cc) in
        let order = keeps-wrote v.transactions stands.order asks in
        let in_step : IsInStep (with_parts v new (groups.wrote_extent v.transactions) v.log v.turn) = record {
          slots = stands.in_step.slots;
          used = stands.in_step.used;
          turns = λ on. let was = stands.in_step.turns on in record { turning = turning ∙ was.turning; writing = was.writing; turn = was.turn; job = was.job };
        } in
        stays-step tells v new m said did.WroteExtent takes.steps.job refl takes.steps.answer.0 (groups.wrote_extent v.transactions) v.log v.turn
        takes.steps.answer.1 takes.steps.log takes.steps.turn
        (goes-on-working tells v (with_parts v new (groups.wrote_extent v.transactions) v.log v.turn) m m stands works
        (record {
          memory = memory;
          machine = stands.machine;
          order = order;
          in_step = in_step;
          gate = stands.gate;
          raises = stands.raises;
          marks = stands.marks;
          job = stands.job;
        }) works refl refl refl (λ told.
        let c = working tells v m stands works told in
        let w = c.works in
        let base = resting-areas v m c in
        let then : Areas = record new.disk.areas { status = w.group.rested } in
        let call = rested-write w.group.rested (extent_start stored.extent) stored.image v.disk.areas new.disk.areas (takes.call.areas told) in
        let sound' = resting-sound v m c in
        let goes = wrote-goes v new m c (Ok tt) at.member at.extent at.is at.low stored there base then sound' w.group.at call in
        let on = goes-on v new m c base then goes in
        heap-wrote v new m c at.member at.extent at.low stored there (takes.call.areas told) stage (sound told)
        (wrote-at v new m c (Ok tt) at.member at.extent at.is at.low stored there base then sound' w.group.at call on)))

-- ---- the heap

pub record IsAllStored (s : GroupStage) (group : ℕ) : Type 0 where
  pub member : ℕ
  pub extent : ℕ
  pub is : s ≡ Storing member extent
  pub past : member ≡ group
  pub some : 0 < group

all-stored : (s : GroupStage) (group : ℕ) (qs : List QueuedValue) → StageFits s group qs → groups.step_of s group ≡ next.SyncHeap → IsAllStored s group
all-stored NoGroup group qs fits asks = absurd cc
all-stored Stored group qs fits asks = absurd cc
all-stored Turning group qs fits asks = absurd cc
all-stored (Storing member extent) group qs fits asks = elim (cases_lt member group) [
  | inl low ↦ let yes : nat_lt member group ≡ true =
      grind (arith, nat_tests) in let other : groups.step_of (Storing member extent) group ≡ next.WriteExtent = rw yes refl in absurd cc
  | inr past ↦ let within = fits.1 in record { member = member; extent = extent; is = refl; past = omega (arith, past, within); some = fits.0 }
]

synced-step : (tells : Bool) (v new : StoreValue) (answer : Result Did PumpFault) (m : Machine Value) → Stands tells v m → (works : m.failed ≡ false)
    → groups.due v.transactions ≡ next.SyncHeap → (IsTrue tells → AreSound new.disk.areas)
    → SyncsHeap tells v answer new → Ends tells m answer new
synced-step tells v new answer m stands works asks sound takes =
    by-answer answer (all-stored v.transactions.stage v.transactions.group v.transactions.queue stands.order.stage_fits asks) takes
  where
    by-answer : (answer : Result Did PumpFault) → IsAllStored v.transactions.stage v.transactions.group → SyncsHeap tells v answer new → Ends tells m answer new
    by-answer (Err why) at takes =
        fails-step tells v new m why takes.steps.answer.0 takes.steps.job stands works v.log v.turn refl refl refl refl takes.steps.answer.1 takes.steps.log
        takes.steps.turn
        (λ told image left. let c = working tells v m stands works told in
        left-so (λ (x : Machine Value). OnFront (IsImageOf c.header image) x) m
        (gate-stays v m stands.in_step stands.memory.failed stands.gate works (ap is_turning at.is))
        (same-leaves v new m c (takes.call.areas told).same image left))
    by-answer (Ok said) at takes =
        let memory = restaged v.transactions m Stored stands.memory (λ _. at.some) (λ turns. absurd cc) in
        let order = keeps-synced v.transactions stands.order asks in
        let in_step : IsInStep (with_parts v new (groups.at_stage Stored v.transactions) v.log v.turn) = record {
          slots = stands.in_step.slots;
          used = stands.in_step.used;
          turns = λ on. let was =
              stands.in_step.turns on in record { turning = sym (ap is_turning at.is) ∙ was.turning; writing = was.writing; turn = was.turn; job = was.job };
        } in
        stays-step tells v new m said did.HeapSynced takes.steps.job refl takes.steps.answer.0 (groups.at_stage Stored v.transactions) v.log v.turn
        takes.steps.answer.1 takes.steps.log takes.steps.turn
        (goes-on-working tells v (with_parts v new (groups.at_stage Stored v.transactions) v.log v.turn) m m stands works
        (record {
          memory = memory;
          machine = stands.machine;
          order = order;
          in_step = in_step;
          gate = stands.gate;
          raises = stands.raises;
          marks = stands.marks;
          job = stands.job;
        }) works refl refl refl (λ told.
        let c = working tells v m stands works told in
        let w = c.works in
        let base = resting-areas v m c in
        let then : Areas = record new.disk.areas { status = w.group.rested } in
        let goes =
        synced-goes v new m c (Ok tt) at.member at.extent at.is at.past at.some base then (resting-sound v m c) w.group.at
        (rested-sync w.group.rested v.disk.areas new.disk.areas (takes.call.areas told)) in
        heap-synced v new m c (takes.call.areas told) Stored (sound told) (goes-on v new m c base then goes)))

-- ---- what memory keeps of a job while commits are published

pub published-later : (m : Machine Value) → IsMachine IsValue m → last m.published ≤ last (steps.group_published m).published
published-later m machine =
    let queued = rising-from_following IsValue m.published m.queue (may_follow-behind IsValue [] m.published m.queue machine.history) in
    let taken =
    rising-front (last m.published) (take m.group m.queue) (drop m.group m.queue)
    (subst (λ (h : History Value). HasRisingTimes (last m.published) h) (sym (take-append-drop m.group m.queue)) queued) in
    let up = last-later (last m.published) (take m.group m.queue) taken in
    omega (arith, up, last_after-append 0 m.published (take m.group m.queue))

-- a job whose slot is not in the writing
pub job-later : (o : Option Job) (archived early late : ℕ) (opened : List (Option ℕ)) (pending : Option (List KeyWrites)) (versions versions' : List KeyWrites)
    (standing : FloorsValue) → turn_of o ≡ None → early ≤ late
    → KeepsJobOf o archived early opened pending versions standing → KeepsJobOf o archived late opened pending versions' standing
job-later None archived early late opened pending versions versions' standing still grown keeps = tt
job-later (Some j) archived early late opened pending versions versions' standing still grown keeps = by-work j.work keeps
  where
    by-work : (work : JobWork) → KeepsWork work j.stage archived early opened pending versions standing
        → KeepsWork work j.stage archived late opened pending versions' standing
    by-work (ArchiveWork run writer) keeps = (keeps.0, (let upto = keeps.1 in omega (arith, upto, grown)))
    by-work (FloorWork scope floor floors) keeps = keeps
    by-work (Grow growth) keeps = absurd keeps
    by-work (Reclaim anchors source written) keeps =
        record {
          is = keeps.is;
          recent = keeps.recent;
          made = λ turning. (let none : is_some (turn_in j.stage) ≡ false = ap (λ (o : Option TurnState). is_some o) still in let no : true
              ≡ false = sym turning
              ∙ none in absurd cc);
        }

-- ---- the slot

-- the turn of the slot is the group's, where the store tells what is on its disk
abbrev IsGroupTurn : (tells : Bool) (v : StoreValue) (m : Machine Value) → (IsTrue tells → StandsOnDisk v m) → m.failed ≡ false → TurnState → Type 0
IsGroupTurn tells v m disk works t =
    (told : IsTrue tells)
    → IsTurnOf (disk told).header ((disk told).works works).log.layout (group_of ((disk told).works works).log.layout v.transactions m) t v.disk.areas

-- a slot on its way: the store has the stage and the turn of it
module _ (tells : Bool) (v new : StoreValue) (m : Machine Value) (t : TurnState) (stands : Stands tells v m) (works : m.failed
    ≡ false) (turning : v.transactions.stage ≡ Turning) (mine-is : v.turn ≡ Some t) (number : t.number ≡ v.log.used)
    (writing : v.log.writing ≡ true) (own : IsGroupTurn tells v m stands.disk works t) (sound : IsTrue tells → AreSound new.disk.areas) (still : turn_of v.job
    ≡ None) (keeps : KeepsJob v new) where
  group-some : 0 < v.transactions.group
  group-some = subst (λ (s : GroupStage). StageFits s v.transactions.group v.transactions.queue) turning stands.order.stage_fits

  -- the next call of the slot is made
  led : (stage : SlotStage) → t.stage ≡ stage → (IsTrue tells → IsSlotCall t.number t.body t.stage (Ok tt) v.disk.areas new.disk.areas)
      → (told : IsTrue tells) →
      IsTurnAt (stands.disk told).header ((stands.disk told).works works).log.layout
      (group_of ((stands.disk told).works works).log.layout v.transactions m).slot
      (laid_out ((stands.disk told).works works).log.layout (group_of ((stands.disk told).works works).log.layout v.transactions m))
      (slots.slot_stage_after stage) new.disk.areas
  led stage is call told =
      let c = working tells v m stands works told in
      let w = c.works in
      let goes = slot-goes v new m c (Ok tt) t (own told) group-some (call told) in
      subst (λ (s : SlotStage). IsTurnAt c.header w.log.layout (group_in v m c).slot (laid_out w.log.layout (group_in v m c)) (slots.slot_stage_after s)
      new.disk.areas) is
      (goes-on v new m c v.disk.areas new.disk.areas goes)

  -- no job's slot is in the writing beside it
  abbrev no-other : (n : ℕ) (turn : Option TurnState) → MatchOption (turn_of v.job) (Unit {0}) (λ u. (u.number ≡ n) × IsOnItsWay u.stage × (turn ≡ None))
  no-other n turn = subst (λ (o : Option TurnState). MatchOption o (Unit {0}) (λ u. (u.number ≡ n) × IsOnItsWay u.stage × (turn ≡ None))) (sym still) tt

  group-in-making : steps.IsInTheMaking m OfGroup
  group-in-making = omega (arith, group-some, stands.memory.group)

  gate-now : m.gate ≡ gate_at OfGroup t.stage
  gate-now = stands.gate works ∙ ap (λ (o : Option TurnState). gate_of o v.job) mine-is

  -- what the store is then
  between : (stage : SlotStage) → t.stage ≡ stage → IsOnItsWay (slots.slot_stage_after stage)
      → (IsTrue tells → IsSlotCall t.number t.body t.stage (Ok tt) v.disk.areas new.disk.areas) → (said what : Did)
      → Run IsValue m (ends_in m.gate (Ok what)) (steps.gated m (gate_at OfGroup (slots.slot_stage_after stage))) → said ≡ what
      → new.transactions ≡ v.transactions → new.log ≡ v.log → new.turn ≡ Some (record t { stage = slots.slot_stage_after stage }) → Ends tells m (Ok said) new
  between stage is way call said what run same a b c =
      let after : Option TurnState = Some (record t { stage = slots.slot_stage_after stage }) in
      let gate : Gate = gate_at OfGroup (slots.slot_stage_after stage) in
      let to : Machine Value = steps.gated m gate in
      let memory = regated v.transactions m gate stands.memory in
      let machine' : IsMachine IsValue to = run-machine IsValue m to (ends_in m.gate (Ok what)) stands.machine run in
      let in_step : IsInStep (with_parts v new v.transactions v.log after) = record {
        slots = stands.in_step.slots;
        used = stands.in_step.used;
        turns = λ on. record { turning = ap is_turning turning; writing = writing; turn = (number, way); job = no-other v.log.used after };
      } in
      let then = goes-on-working tells v (with_parts v new v.transactions v.log after) m to stands works
      (record {
        memory = memory;
        machine = machine';
        order = stands.order;
        in_step = in_step;
        gate = λ on. refl;
        raises = stands.raises;
        marks = stands.marks;
        job = stands.job;
      }) works refl refl refl (λ told.
      let c = working tells v m stands works told in
      let w = c.works in
      let mine = own told in
      let at : IsAtStage c.header w.log.layout (group_in v m c) v.transactions.queue Turning after new.disk.areas =
      record { number = mine.number; long = mine.long; spelled = mine.spelled; at = led stage is call told } in record {
        log = w.log;
        heap = w.heap;
        packed = w.packed;
        group = record {
          rested = new.disk.areas.status;
          rests = rested-now c.header w.log.layout (turn_of v.job) new.disk.areas.status still;
          at = subst (λ (s : GroupStage). IsAtStage c.header w.log.layout (group_in v m c) v.transactions.queue s after new.disk.areas) (sym turning) at;
        };
        job = subst (λ (a : Areas). HasJob c.header w.log.layout w.log.reading m.published v.transactions.reserved v.job a)
            (sym (slot-alone t.stage t.number t.body v.disk.areas new.disk.areas (call told)))
            (job-beside-status c.header w.log.layout w.log.reading m.published v.transactions.reserved v.job v.disk.areas new.disk.areas.status still w.job);
        sound = sound told;
      }) in
      subst (λ (e : Did). Ends tells m (Ok e) new) (sym same) (
        to,
        run,
        subst (λ (x : StoreValue). Stands tells x to) (same-store v new v.transactions v.log after keeps a b c) then,
      )

  -- and where its gate is open
  opens : t.stage ≡ slots.GateWritten → (IsTrue tells → IsSlotCall t.number t.body t.stage (Ok tt) v.disk.areas new.disk.areas) → groups.due v.transactions
      ≡ next.AdvanceSlot → (said : Did) → said ≡ did.Published v.transactions.group
      → new.transactions ≡ groups.published v.transactions → new.log ≡ record v.log { used = t.number + 1; writing = false } → new.turn ≡ None
      → Ends tells m (Ok said) new
  opens is call asks said same a b c =
      let log : LogState = record v.log { used = t.number + 1; writing = false } in
      let memory = publishes v.transactions m stands.memory stands.machine (ap is_turning turning) in
      let grown = published-later m stands.machine in
      let rest : AreOut v.transactions.usages ((flat_map numbers_of (take v.transactions.group v.transactions.queue)
      ++ flat_map numbers_of (drop v.transactions.group v.transactions.queue)) ++ v.transactions.reserved) =
      subst (λ (l : List ℕ). AreOut v.transactions.usages (l
      ++ v.transactions.reserved)) (numbers-split v.transactions.group v.transactions.queue) stands.order.out in
      let order = keeps-published v.transactions stands.order asks
      (out-beside v.transactions.usages (flat_map numbers_of (take v.transactions.group v.transactions.queue))
      (flat_map numbers_of (drop v.transactions.group v.transactions.queue)) v.transactions.reserved Kept rest) in
      let step : steps.Step IsValue m (steps.Published v.transactions.group) (steps.group_published m) =
      (works, group-some, stands.memory.group, gate-now ∙ ap (gate_at OfGroup) is, refl) in
      let machine' : IsMachine IsValue (steps.group_published m) =
      run-machine IsValue m (steps.group_published m) (steps.Published v.transactions.group ∷ []) stands.machine (steps.group_published m, step, refl) in
      let in_step : IsInStep (with_parts v new (groups.published v.transactions) log None) = record {
        slots = stands.in_step.slots;
        used = omega (arith, number, stands.in_step.used);
        turns = λ on. record { turning = refl; writing = sym (ap (λ (o : Option TurnState). is_some o) still); turn = tt; job = no-other (t.number + 1) None };
      } in
      let after = goes-on-working tells v (with_parts v new (groups.published v.transactions) log None) m (steps.group_published m) stands works (record {
        memory = memory;
        machine = machine';
        order = order;
        in_step = in_step;
        gate = λ on. sym (still-shut v.job still);
        raises = stands.raises;
        marks = (stands.marks.0, (let archived = stands.marks.1 in omega (arith, archived, grown)));
        job = job-later v.job v.archived (last m.published) (last (steps.group_published m).published) v.transactions.opened v.transactions.pending
            v.transactions.versions (groups.published v.transactions).versions v.transactions.floors still grown stands.job;
      }) works refl refl refl (λ told.
      published-works v new m (working tells v m stands works told) group-some (ap is_turning turning) still t.number (own told).number (sound told)
      new.disk.areas.status
      (slot-alone t.stage t.number t.body v.disk.areas new.disk.areas (call told)) (led slots.GateWritten is call told)) in
      subst (λ (e : Did). Ends tells m (Ok e) new) (sym same) (
        steps.group_published m,
        (steps.group_published m, step, refl),
        subst (λ (x : StoreValue). Stands tells x (steps.group_published m)) (same-store v new (groups.published v.transactions) log None keeps a b c) after,
      )

  turned : (stage : SlotStage) → t.stage ≡ stage → (IsTrue tells → IsSlotCall t.number t.body t.stage (Ok tt) v.disk.areas new.disk.areas)
      → groups.due v.transactions ≡ next.AdvanceSlot → (what : Did) → IsTurned stage t v what new → Ends tells m (Ok what) new
  turned slots.Begun is call asks what to =
      between slots.Begun is tt call what did.BodyWritten (ap (steps.gated m) (sym (gate-now ∙ ap (gate_at OfGroup) is))) to.0 to.1 to.2 to.3
  turned slots.BodyWritten is call asks what to =
      between slots.BodyWritten is tt call what did.BodySynced (
        steps.gated m (Due OfGroup),
        (works, group-in-making, gate-now ∙ ap (gate_at OfGroup) is, refl),
        refl,
      ) to.0 to.1 to.2 to.3
  turned slots.BodySynced is call asks what to =
      between slots.BodySynced is tt call what did.GateWritten (
        steps.gated m (MayBeOpen OfGroup),
        (works, gate-now ∙ ap (gate_at OfGroup) is, refl),
        refl,
      ) to.0 to.1 to.2 to.3
  turned slots.GateWritten is call asks what to = opens is call asks what to.0 to.1 to.2 to.3
  turned slots.Opened is call asks what to = absurd to

  slot-step : groups.due v.transactions ≡ next.AdvanceSlot → (answer : Result Did PumpFault) → TurnsSlot tells t v answer new → Ends tells m answer new
  slot-step asks (Ok what) turns = turned t.stage refl turns.call.areas asks what turns.answer
  slot-step asks (Err why) turns =
      fails-step tells v new m why turns.answer.fault keeps stands works v.log None refl refl refl refl turns.answer.transactions turns.answer.log
      turns.answer.turn
      (λ told. let c = working tells v m stands works told in
      goes-leaves v new m c (gate_left m.gate) (record {}) v.disk.areas new.disk.areas
      (slot-goes v new m c (Err (record {})) t (own told) group-some (turns.call.areas told))
      (λ may. ap gate_left gate-now ∙ left-is t.stage may))

-- ---- the slot is begun

pub begin-is : (s : GroupStage) (group : ℕ) → groups.step_of s group ≡ next.BeginSlot → s ≡ Stored
begin-is NoGroup group asks = absurd cc
begin-is Stored group asks = refl
begin-is Turning group asks = absurd cc
begin-is (Storing member extent) group asks =
    elim (nat_lt member group) as (λ (b : Bool). cond b next.WriteExtent next.SyncHeap ≡ next.BeginSlot → Storing member extent
    ≡ Stored) [ true ↦ λ no. absurd cc | false ↦ λ no. absurd cc ] asks

-- the group's slot is in the writing
abbrev plainly : StoreValue → StoreValue
plainly v = record v { transactions = groups.at_stage Turning v.transactions; log = record v.log { writing = true } }

-- the group's slot is in the writing, and no call of it is made: the store is on its way to the first one
module _ (tells : Bool) (v new : StoreValue) (m : Machine Value) (stands : Stands tells v m) (works : m.failed ≡ false) (stored : v.transactions.stage ≡ Stored)
    (fresh : mark_after v.transactions.reclaimed (take v.transactions.group v.transactions.queue) ≡ v.transactions.reclaimed)
    (sound : IsTrue tells → AreSound new.disk.areas) (body : Body) (commit : IsCommitOf (groups.entries v.transactions) body) (still : turn_of v.job
    ≡ None) (keeps : KeepsJob v new) where
  abbrev first : TurnState
  first = record { number = v.log.used; body = spelling v.log.profile (record { number = v.log.used; body = body }); stage = slots.Begun }

  some-stored : 0 < v.transactions.group
  some-stored = subst (λ (s : GroupStage). StageFits s v.transactions.group v.transactions.queue) stored stands.order.stage_fits

  shut : m.gate ≡ Shut
  shut = gate-of-job v m stands.in_step stands.memory.failed stands.gate works (ap is_turning stored) ∙ still-shut v.job still

  first-turn : (told : IsTrue tells)
      → IsTurnOf (stands.disk told).header ((stands.disk told).works works).log.layout (group_of ((stands.disk told).works works).log.layout v.transactions m)
      first v.disk.areas
  first-turn told =
      let c = working tells v m stands works told in
      let w = c.works in
      begun-turn v new m c body commit
      (subst (λ (s : GroupStage). IsAtStage c.header w.log.layout (group_in v m c) v.transactions.queue s v.turn v.disk.areas) stored (now-at v m c still))
      some-stored

  abbrev first-goes : (answer : Result (Unit {0}) DeviceFault) (told : IsTrue tells)
      → IsSlotCall first.number first.body slots.Begun answer v.disk.areas new.disk.areas
      → Goes v m (working tells v m stands works told) answer v.disk.areas new.disk.areas
  first-goes answer told call =
      let c = working tells v m stands works told in
      slot-goes v new m c answer first (first-turn told) some-stored call

  begun-step : groups.due v.transactions ≡ next.BeginSlot → (answer : Result Did PumpFault) → TurnsSlot tells first (plainly v) answer new
      → Ends tells m answer new
  begun-step asks (Ok what) to =
      let after : Option TurnState = Some (record first { stage = slots.BodyWritten }) in
      let log : LogState = record v.log { writing = true } in
      let memory = restaged v.transactions m Turning stands.memory (λ _. some-stored) (λ _. fresh) in
      let order = keeps-begun v.transactions stands.order asks in
      let in_step : IsInStep (with_parts v new (groups.at_stage Turning v.transactions) log after) = record {
        slots = stands.in_step.slots;
        used = stands.in_step.used;
        turns = λ on. record {
          turning = refl;
          writing = refl;
          turn = (refl, tt);
          job = subst (λ (o : Option TurnState). MatchOption o (Unit {0}) (λ u. (u.number ≡ v.log.used) × IsOnItsWay u.stage × (after ≡ None))) (sym still) tt;
        };
      } in
      stays-step tells v new m what did.BodyWritten keeps refl to.answer.0 (groups.at_stage Turning v.transactions) log after to.answer.1 to.answer.2
      to.answer.3
      (goes-on-working tells v (with_parts v new (groups.at_stage Turning v.transactions) log after) m m stands works
      (record {
        memory = memory;
        machine = stands.machine;
        order = order;
        in_step = in_step;
        gate = λ on. shut;
        raises = stands.raises;
        marks = stands.marks;
        job = stands.job;
      }) works refl refl refl (λ told.
      let c = working tells v m stands works told in
      let w = c.works in
      let mine = first-turn told in
      let on = goes-on v new m c v.disk.areas new.disk.areas (first-goes (Ok tt) told (to.call.areas told)) in
      staged-works v new m c Turning log after refl (sound told) new.disk.areas.status
      (rested-now c.header w.log.layout (turn_of v.job) new.disk.areas.status still) (record {
        number = mine.number;
        long = mine.long;
        spelled = mine.spelled;
        at = on;
      })
      (subst (λ (a : Areas). HasJob c.header w.log.layout w.log.reading m.published v.transactions.reserved v.job a)
      (sym (slot-alone slots.Begun first.number first.body v.disk.areas new.disk.areas (to.call.areas told)))
      (job-beside-status c.header w.log.layout w.log.reading m.published v.transactions.reserved v.job v.disk.areas new.disk.areas.status still w.job))))
  begun-step asks (Err why) to =
      let log : LogState = record v.log { writing = true } in
      let after : Machine Value = steps.broken (steps.gated m (gate_left m.gate)) in
      let stands' : Stands tells (with_parts v new (groups.broken v.transactions) log None) after =
      fails-parts tells v new m stands works (gate_left m.gate) log None refl refl refl refl
      (λ told. let c = working tells v m stands works told in
      goes-leaves v new m c (gate_left m.gate) (record {}) v.disk.areas new.disk.areas (first-goes (Err (record {})) told (to.call.areas told))
      (λ no. absurd no)) in
      subst (λ (e : PumpFault). Ends tells m (Err e) new) (sym to.answer.fault) (
        after,
        breaks-run m works m.gate refl,
        subst (λ (x : StoreValue). Stands tells x after)
            (same-store v new (groups.at_stage Turning (groups.broken v.transactions)) log None keeps to.answer.transactions to.answer.log to.answer.turn)
            (record {
              memory = restaged (groups.broken v.transactions) after Turning stands'.memory (λ _. some-stored) (λ _. fresh);
              machine = stands'.machine;
              order = broken-order (groups.at_stage Turning v.transactions) (keeps-begun v.transactions stands.order asks);
              in_step = record { slots = stands'.in_step.slots; used = stands'.in_step.used; turns = λ no. absurd cc };
              gate = λ no. absurd cc;
              raises = stands'.raises;
              marks = stands'.marks;
              job = stands'.job;
              disk = λ told.
                  let d = stands'.disk told in record {
                    header = d.header;
                    profile = d.profile;
                    slots = d.slots;
                    pieces = d.pieces;
                    profile_built = d.profile_built;
                    leaves = d.leaves;
                    works = λ no. absurd cc;
                  };
            }),
      )

-- ---- every step

-- the store whose group leaves versions that have forgotten all that ended by the mark
fresh-parts : (tells : Bool) (v : StoreValue) (m : Machine Value) (stands : Stands tells v m) → (works : m.failed ≡ false) → v.transactions.stage ≡ Stored
    → 0 < v.transactions.group → Stands tells (freshly v) m
fresh-parts tells v m stands works stored some =
    let in_step : IsInStep (freshly v) = record {
      slots = stands.in_step.slots;
      used = stands.in_step.used;
      turns = λ on. let was = stands.in_step.turns on in record { turning = was.turning; writing = was.writing; turn = was.turn; job = was.job };
    } in
    goes-on-working tells v (freshly v) m m stands works (record {
      memory = freshens v.transactions m stands.memory stands.machine;
      machine = stands.machine;
      order = fresh-order v.transactions stands.order;
      in_step = in_step;
      gate = stands.gate;
      raises = stands.raises;
      marks = stands.marks;
      job = stands.job;
    }) works refl refl refl (λ told. let c = working tells v m stands works told in fresh-works c.header v m stored c.works)

-- while a group's slot is in the writing no job's is
no-job-turn : (o turn : Option TurnState) (t : TurnState) → turn ≡ Some t → (n : ℕ)
    → MatchOption o (Unit {0}) (λ u. (u.number ≡ n) × IsOnItsWay u.stage × (turn ≡ None)) → o ≡ None
no-job-turn None turn t is n apart = refl
no-job-turn (Some u) turn t is n apart = let none : Some t ≡ None = sym is ∙ apart.2 in absurd cc

advance-step : (tells : Bool) (v new : StoreValue) (m : Machine Value) → (stands : Stands tells v m) → (works : m.failed ≡ false) → groups.due v.transactions
    ≡ next.AdvanceSlot → (IsTrue tells → AreSound new.disk.areas) → (answer : Result Did PumpFault)
    → MatchOption v.turn ⊥ (λ turn. TurnsSlot tells turn v answer new) → Ends tells m answer new
advance-step tells v new m stands works asks sound answer takes =
    by-turn v.turn refl takes
  where
    on : v.transactions.failed ≡ false
    on = stands.memory.failed ∙ works

    is : v.transactions.stage ≡ Turning
    is = advance-is v.transactions.stage v.transactions.group asks

    by-turn : (o : Option TurnState) → v.turn ≡ o → MatchOption o ⊥ (λ turn. TurnsSlot tells turn v answer new) → Ends tells m answer new
    by-turn None at takes = absurd takes
    by-turn (Some t) at takes =
        let turns = stands.in_step.turns on in
        let still : turn_of v.job ≡ None = no-job-turn (turn_of v.job) v.turn t at v.log.used turns.job in
        let mine : MatchOption (Some t) (Unit {0}) (λ t. (t.number ≡ v.log.used) × IsOnItsWay t.stage) =
        subst (λ (o : Option TurnState). MatchOption o (Unit {0}) (λ t. (t.number ≡ v.log.used) × IsOnItsWay t.stage)) at turns.turn in
        slot-step tells v new m t stands works is at mine.0 (turns.writing ∙ ap (λ (o : Option TurnState). is_some o || is_some (turn_of v.job)) at)
        (λ told.
        let c = working tells v m stands works told in
        let w = c.works in
        subst (λ (o : Option TurnState). IsAtStage c.header w.log.layout (group_in v m c) v.transactions.queue Turning o v.disk.areas) at
        (subst (λ (s : GroupStage). IsAtStage c.header w.log.layout (group_in v m c) v.transactions.queue s v.turn v.disk.areas) is (now-at v m c still)))
        sound still takes.job asks answer takes

step : (tells : Bool) (s : NextStep) (v new : StoreValue) (answer : Result Did PumpFault) (m : Machine Value) → Stands tells v m → m.failed ≡ false
    → groups.due v.transactions ≡ s → (IsTrue tells → AreSound new.disk.areas)
    → TakesStep tells s v answer new → Ends tells m answer new
step tells next.Idle v new answer m stands works asks sound takes =
    subst (λ (r : Result Did PumpFault). Ends tells m r new) (sym takes.0) (m, refl, subst (λ (x : StoreValue). Stands tells x m) (sym takes.1) stands)
step tells next.WriteExtent v new answer m stands works asks sound takes =
    wrote-step tells v new answer m stands works asks sound (groups.next_extent v.transactions) refl takes
step tells next.SyncHeap v new answer m stands works asks sound takes = synced-step tells v new answer m stands works asks sound takes
step tells next.BeginSlot v new answer m stands works asks sound takes = by-job-turn (turn_of v.job) refl takes
  where
    by-job-turn : (o : Option TurnState) → turn_of v.job ≡ o → MatchBool (is_some o) ((answer ≡ Err pump.Busy) × (new ≡ v)) (MayBeginSlot tells v answer new)
        → Ends tells m answer new
    by-job-turn (Some u) at busy =
        subst (λ (r : Result Did PumpFault). Ends tells m r new) (sym busy.0) (m, refl, subst (λ (x : StoreValue). Stands tells x m) (sym busy.1) stands)
    by-job-turn None still (inl short) =
        subst (λ (r : Result Did PumpFault). Ends tells m r new) (sym short.1) (m, refl, subst (λ (x : StoreValue). Stands tells x m) (sym short.2) stands)
    by-job-turn None still (inr first) =
        let stored = begin-is v.transactions.stage v.transactions.group asks in
        let some : 0 < v.transactions.group =
        subst (λ (s : GroupStage). StageFits s v.transactions.group v.transactions.queue) stored stands.order.stage_fits in
        let fresh = fresh-parts tells v m stands works stored some in
        let keeps : KeepsJob (freshly v) new =
        (let k = first.turns.job in record { job = k.job; archived = k.archived; runs_end = k.runs_end; archive = k.archive }) in
        begun-step tells (freshly v) new m fresh works stored (fresh-marks v.transactions m stands.memory some stands.order.group_within) sound first.body
        (subst (λ (es : List Entry). IsCommitOf es first.body) (sym (fresh-entries v.transactions)) first.commit) still keeps asks answer first.turns
step tells next.AdvanceSlot v new answer m stands works asks sound takes = advance-step tells v new m stands works asks sound answer takes

-- what holds of the transactions, whether a group has begun or not
grouped-has : (P : TransactionsValue → Type 0) (t : TransactionsValue) → P t → P (record t { group = min (length t.queue) 16; stage = Storing 0 0 })
    → P (groups.grouped t)
grouped-has P t still began =
    elim ((t.group == 0) && nat_lt 0 (length t.queue)) as (λ (b : Bool). P (cond b (record t { group = min (length t.queue) 16; stage = Storing 0 0 }) t))
    [ true ↦ began | false ↦ still ]

-- the store whose group may have begun
started-parts : (tells : Bool) (v : StoreValue) (m : Machine Value) (size : ℕ) → Stands tells v m → m.failed ≡ false
    → StandsInMemory (groups.grouped v.transactions) (record m { group = size }) → IsMachine IsValue (record m { group = size })
    → Stands tells (started v) (record m { group = size })
started-parts tells v m size stands works memory machine =
    goes-on-working tells v (started v) m (record m { group = size }) stands works (record {
      memory = memory;
      machine = machine;
      order = keeps-grouped v.transactions stands.order;
      in_step = started-in_step v stands.order stands.in_step;
      gate = stands.gate;
      raises = stands.raises;
      marks = (grouped-has (λ (t : TransactionsValue). t.reclaimed ≤ v.archived) v.transactions stands.marks.0 stands.marks.0, stands.marks.1);
      job = grouped-has (λ (t : TransactionsValue). KeepsJobOf v.job v.archived (last m.published) t.opened t.pending t.versions t.floors) v.transactions
          stands.job stands.job;
    }) works refl refl refl (λ told. let c = working tells v m stands works told in begun-works c.header v m size stands.order c.works memory)

pub pump-stands : (tells : Bool) (old new : StoreValue) (answer : Result Did PumpFault) (m : Machine Value) → Stands tells old m
    → (IsTrue tells → AreSound new.disk.areas) → Pumps tells old answer new
    → MatchBool m.failed ((answer ≡ Err pump.Failed) × Stands tells new m) ((after : Machine Value) × Run IsValue m (begins_in m ++ ends_in m.gate answer) after
    × Stands tells new after)
pump-stands tells old new answer m stands sound pumps =
    by-failure m.failed refl
    (subst (λ (b : Bool). MatchBool b ((answer ≡ Err pump.Failed)
    × (new ≡ old)) (TakesStep tells (groups.next_step old.transactions) (started old) answer new)) stands.memory.failed pumps)
  where
    by-failure : (b : Bool) → m.failed ≡ b
        → MatchBool b ((answer ≡ Err pump.Failed) × (new ≡ old)) (TakesStep tells (groups.next_step old.transactions) (started old) answer new)
        → MatchBool b ((answer ≡ Err pump.Failed) × Stands tells new m) ((after : Machine Value) × Run IsValue m (begins_in m ++ ends_in m.gate answer) after
        × Stands tells new after)
    by-failure true failed is = (is.0, subst (λ (x : StoreValue). Stands tells x m) (sym is.1) stands)
    by-failure false works takes =
        let begun = begins old.transactions m stands.memory stands.machine works in
        let run-mid : Run IsValue m (begins_in m ++ []) begun.mid = begun.run [] begun.mid refl in
        let machine : IsMachine IsValue begun.mid = run-machine IsValue m begun.mid (begins_in m ++ []) stands.machine run-mid in
        let is : begun.mid ≡ record m { group = begun.mid.group } = begun.is in
        let memory : StandsInMemory (groups.grouped old.transactions) (record m { group = begun.mid.group }) =
        subst (λ (x : Machine Value). StandsInMemory (groups.grouped old.transactions) x) is begun.stands in
        let from = subst (λ (x : Machine Value). Stands tells (started old) x) (sym is)
        (started-parts tells old m begun.mid.group stands works memory (subst (λ (x : Machine Value). IsMachine IsValue x) is machine)) in
        let ends = step tells (groups.next_step old.transactions) (started old) new answer begun.mid from (begun.works ∙ works) refl sound takes in
        let run : Run IsValue m (begins_in m ++ ends_in m.gate answer) ends.0 =
        subst (λ (g : Gate). Run IsValue m (begins_in m ++ ends_in g answer) ends.0) begun.gate (begun.run (ends_in begun.mid.gate answer) ends.0 ends.1) in (
          ends.0,
          run,
          ends.2,
        )
