-- Each step of a job keeps what the store stands for, in memory and on its disk.
use Rattle.std.proofs.Common.{rules, ◌≡◌, ◌≢◌, slice_get, ℕ, zero, suc, ◌+◌, ◌<◌, ◌≤◌, ◌==◌, Bool, true, false, cond, unwrap_or, List, [], ◌∷◌, ◌++◌, length}
use Rattle.std.proofs.Common.{take, drop, map, filter, Option, None, Some, is_some, ◌||◌, Result, Ok, Err, MatchBool, MatchOption, refl, arith, ap, sym, subst}
use Rattle.std.proofs.Common.{◌∙◌, inl, inr, length-append, append_assoc}
use Rattle.std.specs.Prelude.{IsTrue, IsSome, IsNone}
use Rattle.std.proofs.lemmas.Bool.Decides.{nat_tests}
use Rattle.std.specs.List.{AllByRecursion, flat_map}
use Rattle.std.proofs.lemmas.List.{append-nil, map-append, take-append-drop, length-replicate}
use Rattle.std.proofs.lemmas.Grind.{flat_map-append}
use Rattle.history.specs.declared.key.Key.{Key}
use Rattle.history.specs.Floors.{Raising, covers, covered, raised}
use Rattle.floors.specs.Floors.{FloorsValue, floor_at, raised_in}
use Rattle.floors.proofs.Owns.{raised-is}
use Rattle.law_image.specs.Log.{IsScopeOf}
use Rattle.history.specs.Machine.{Machine, OfGroup, OfFloor, Gate, Shut, Due, MayBeOpen, MayRaise, IsMachine}
use Rattle.history.specs.Fronts.{OnFront}
use Rattle.history.specs.Histories.{History, last}
use Rattle.history.specs.Steps as steps
use Rattle.history.specs.Steps.{Event, Run}
use Rattle.history.proofs.Filters.{AllByRecursion-append}
use Rattle.history.proofs.Machines.{run-machine}
use Rattle.law_image.specs.Values.{Value, IsValue}
use Rattle.law_image.specs.Reading.{Archived, Reclaimed as ReclaimedSlot, Floor as FloorSlot, Reading}
use Rattle.law_image.specs.StandsFor.{StandsFor, archived_upto, reclaimed_upto}
use Rattle.history.specs.declared.time.Version.{Version}
use Rattle.history.specs.Versions.{ends_after}
use Rattle.history.proofs.Views.{filter-later}
use Rattle.law_image.proofs.Logs.{archive_mark-append, reclaim_mark-append}
use Rattle.disk.specs.declared.area.Area.TheVariants.{Status, Heap, Archive}
use Rattle.disk.specs.declared.area.DeviceFault.{DeviceFault}
use Rattle.disk.specs.Areas.{AreaState, Areas, Image, AreSound, IsSound, LeavesImage, loosened, written, synced, overlaid}
use Rattle.disk.specs.Parts.{HoldsPart, IsLoosened}
use Rattle.disk.proofs.Stops.{left_by_write}
use Rattle.disk.proofs.Parts.{synced_part, kept_by_sync}
use Rattle.wire.specs.Numbers.{u16_bytes}
use Rattle.wire.specs.Spelling.{IsSpelled, InRange, IsRelationOf, spelling, front_of, fields_of, u32_bytes, u64_bytes}
use Rattle.wire.specs.declared.slot.Anchors.{Anchors}
use Rattle.wire.specs.declared.slot.Run.{Run as WireRun}
use Rattle.wire.specs.declared.slot.Slot.{Slot}
use Rattle.archive.specs.Pieces.{InWriting}
use Rattle.vacuum.specs.Anchors.{Sourced}
use Rattle.chains.specs.KeyWrites.{KeyWrites, writes_of, IsOrdered, forgotten}
use Rattle.chains.specs.Writes.{kept_after}
use Rattle.chains.proofs.Versions.{writes_of-forgotten}
use Rattle.law_image.specs.Facts.{heap_facts}
use Rattle.deltas.specs.Packing.{bodies}
use Rattle.deltas.specs.Records.{spelling as record_spelling}
use Rattle.deltas.specs.Filling.{IsFilled}
use Rattle.deltas.specs.Chains.{first_number}
use Rattle.deltas.specs.declared.filled_extent.FilledExtent.{FilledExtent}
use Rattle.wire.specs.declared.slot.Body.TheVariants.{Archived as ArchivedBody, Reclaimed as ReclaimedBody, Floor as FloorBody}
use Rattle.chains.proofs.Forgetting.{latest-forgotten}
use Rattle.extents.specs.Usages.{IsKept, AreOut}
use Rattle.status.specs.declared.header.Header.{Header}
use Rattle.status.specs.Header.{total}
use Rattle.status.specs.Rules.{runs_of, runs_in, row_end}
use Rattle.status.specs.SlotCalls.{SlotStage, IsSlotCall}
use Rattle.status.specs.SlotCalls as slots
use Rattle.status.specs.TurnState.{TurnState, LogState}
use Rattle.law_layout.specs.Extents.{Extent, IsExtent, AreDistinct, HoldsExtent, KeepsExtent, extent_start, extent_bytes}
use Rattle.law_layout.specs.Runs.{StoredRun, KeepsRun, run_bytes}
use Rattle.law_layout.specs.Layouts.{Layout, live, extents_of}
use Rattle.law_layout.specs.Keeping.{KeepsExtents, KeepsRuns, KeepsParts, StatusRests}
use Rattle.law_layout.specs.Jobs.{reclaimed}
use Rattle.law_layout.specs.SlotTurns.{IsTurnAt}
use Rattle.law_layout.specs.Turn as turns
use Rattle.law_layout.specs.Turn.{Group, laid_out}
use Rattle.law_layout.proofs.Beside.{archive_beside}
use Rattle.law_layout.proofs.Extents.{loosened_is, written_is, one_more_held, extents_synced}
use Rattle.law_layout.proofs.Jobs.{archive_kept, reclaim_kept}
use Rattle.law_layout.proofs.Layouts.{live_more, live_extents_are}
use Rattle.law_layout.proofs.Lists.{weaker, all_of_front, all_of_back, others}
use Rattle.law_layout.proofs.RunWays.{row_end-more, front-grows, group-beside}
use Rattle.group.specs.Queued.{QueuedValue, numbers_of}
use Rattle.group.specs.declared.answers.PumpFault.{PumpFault}
use Rattle.group.specs.declared.answers.PumpFault.TheVariants as pump
use Rattle.group.specs.Order.{IsInOrder, StageFits}
use Rattle.group.specs.Values.{TransactionsValue, is_turning, with_slot_used, with_floors}
use Rattle.group.specs.Steps as groups
use Rattle.group.specs.Reclaims.{prepared, versions_once, reclaimed_to}
use Rattle.group.specs.declared.stage.GroupStage.{GroupStage}
use Rattle.group.specs.declared.stage.GroupStage.TheVariants.{NoGroup, Storing, Stored, Turning}
use Rattle.group.proofs.Publishing.{out-swapped}
use Rattle.store.specs.Values.{StoreValue, IsInStep, IsOnItsWay, turn_in, turn_of, lent_by, lent_to}
use Rattle.store.specs.declared.job.Job.{Job}
use Rattle.store.specs.declared.job.JobWork.{JobWork}
use Rattle.store.specs.declared.job.JobWork.TheVariants.{Archive as ArchiveWork, Reclaim, Floor as FloorWork, Grow}
use Rattle.store.specs.declared.job.JobStage.{JobStage}
use Rattle.store.specs.declared.job.JobStage.TheVariants as job
use Rattle.store.specs.declared.job.JobDid.{JobDid}
use Rattle.store.specs.declared.job.JobDid.TheVariants as did
use Rattle.store.specs.Jobs.{PumpsJob, TakesJobStep, Stores, WritesOrSyncs, WritesRun, AnchorsOrSync, WritesAnchors, SyncsStored, BeginsJobSlot, TurnsJob}
use Rattle.store.specs.Jobs.{IsJobTurned, with_job, work_done, job_done, slot_opened, slot_body, behind_piece, first_turn, slot_taken}
use Rattle.law_refinement.specs.Standing.{StandsInMemory, Reclaims}
use Rattle.law_refinement.specs.OnDisk.{IsImageOf, AllPacked, HasTimes, group_of, IsAtStage, StoredAnchors, Product, OfRun, OfAnchors, OfFloor, body_of}
use Rattle.law_refinement.specs.OnDisk.{slot_naming, laid_with, read_with, IsNextRun, IsNextChain, MayBeNext, IsMadeBy, IsWritten, IsFilling, KeepsProduct}
use Rattle.law_refinement.specs.OnDisk.{IsTurnFor, IsAtJob, JobIsAt, HasJob, IsRested, Works}
use Rattle.law_refinement.specs.Stands.{HasMarks, KeepsWork, KeepsJobOf, gate_at, gate_for, gate_in, job_gate, gate_of, raising_by, raising_of, AreOfProfile}
use Rattle.law_refinement.specs.Stands.{RaisesFloor, StandsBeside as Stands}
use Rattle.law_refinement.specs.Laws.{floor_ends, job_breaks_in, job_ends_in}
use Rattle.law_refinement.proofs.Besides.{IsBeside, AreBeside, all-keep, all-hold, write-beside, torn-beside, sync-beside, beside-none, beside-out}
use Rattle.law_refinement.proofs.Besides.{beside-numbers}
use Rattle.law_refinement.proofs.Chains.{fill-is, all-filled}
use Rattle.law_refinement.proofs.HeapForgets.{heap-forgets}
use Rattle.law_refinement.proofs.Joining as joining
use Rattle.law_refinement.proofs.Joining.{MayOpenWithin, numbers-split}
use Rattle.law_refinement.proofs.Publishing.{regated, breaks}
use Rattle.law_refinement.proofs.Orders.{memory-beside, order-beside}
use Rattle.law_refinement.proofs.Reclaimed.{prepares, reclaims}
use Rattle.law_refinement.proofs.Retired.{reclaimed-kept, reclaimed-times, reclaimed-order, times-long}
use Rattle.law_refinement.proofs.Jobs.{made-lends, floors_with, MayStand, IsFree, adds, laid-after, stands-after, built-after, product-leaves-within}
use Rattle.law_refinement.proofs.Jobs.{product-leads}
use Rattle.law_refinement.proofs.Working.{Working, working, still-shut, gate-beside, job-room}
use Rattle.law_refinement.proofs.Pumping.{may-stand, gate-in-turn, now-at, job-free, out-middle, stage-leaves, works-leave, goes-on-working, goes-on-failed}
use Rattle.law_refinement.proofs.Pumping.{raises-so, broken-machine, broken-order, slot-alone}

-- ---- what a group's stage says of the areas

parts-of : (header : Header) (layout : Layout) (group : Group) (qs : List QueuedValue) (s : GroupStage) (turn : Option TurnState) (areas : Areas)
    → IsAtStage header layout group qs s turn areas → KeepsParts layout areas
parts-of header layout group qs NoGroup turn areas at = at.parts
parts-of header layout group qs (Storing member extent) turn areas at = at.rests.parts
parts-of header layout group qs Stored turn areas at = at.old_parts
parts-of header layout group qs Turning None areas at = absurd at
parts-of header layout group qs Turning (Some t) areas at = at.at.old_parts

rests-of : (header : Header) (layout : Layout) (group : Group) (qs : List QueuedValue) (s : GroupStage) (turn : Option TurnState) (areas : Areas) → is_turning s
    ≡ false → IsAtStage header layout group qs s turn areas → StatusRests header layout.slots areas.status
rests-of header layout group qs NoGroup turn areas still at = at.status
rests-of header layout group qs (Storing member extent) turn areas still at = at.rests.status
rests-of header layout group qs Stored turn areas still at = at.status
rests-of header layout group qs Turning turn areas still at = absurd cc

-- the archive may be written behind the runs
stage-beside : (header : Header) (layout : Layout) (group : Group) (qs : List QueuedValue) (s : GroupStage) (turn : Option TurnState) (areas : Areas)
    (archive : AreaState) → KeepsRuns layout.runs archive
    → IsAtStage header layout group qs s turn areas → IsAtStage header layout group qs s turn (record areas { archive = archive })
stage-beside header layout group qs NoGroup turn areas archive keeps at =
    record { status = at.status; parts = record { extents = at.parts.extents; runs = keeps } }
stage-beside header layout group qs (Storing member extent) turn areas archive keeps at =
    group-beside header layout group (turns.Storing _ _) areas archive keeps at
stage-beside header layout group qs Stored turn areas archive keeps at = group-beside header layout group (turns.Turning slots.Begun) areas archive keeps at
stage-beside header layout group qs Turning None areas archive keeps at = absurd at
stage-beside header layout group qs Turning (Some t) areas archive keeps at = record {
  number = at.number;
  long = at.long;
  spelled = at.spelled;
  at = group-beside header layout group (turns.Turning t.stage) areas archive keeps at.at;
}

-- and the heap beside the live chains and beside the group
module _ (header : Header) (layout : Layout) (group : Group) (areas : Areas) (heap : AreaState) (n : ℕ) (beside : IsBeside n areas.heap heap)
    (apart : AreBeside n (live layout)) where
  turn-on-heap : (stage : SlotStage) → AreBeside n (extents_of group.members) → IsTurnAt header layout group.slot (laid_out layout group) stage areas
      → IsTurnAt header layout group.slot (laid_out layout group) stage (record areas { heap = heap })
  turn-on-heap stage own at = record {
    status = at.status;
    old_parts = record { extents = all-keep n areas.heap heap beside (live layout) apart at.old_parts.extents; runs = at.old_parts.runs };
    new_parts = record {
      extents = all-keep n areas.heap heap beside (live (laid_out layout group))
          (subst (AreBeside n) (sym (live_more layout group)) (AllByRecursion-append (λ (f : Extent). IsExtent f
          × (f.number ≢ n)) (live layout) (extents_of group.members) apart own)) at.new_parts.extents;
      runs = at.new_parts.runs;
    };
  }

  stage-on-heap : (qs : List QueuedValue) (s : GroupStage) (size : ℕ) (turn : Option TurnState) → StageFits s size qs
      → (0 < size → AreBeside n (extents_of group.members)) → IsAtStage header layout group qs s turn areas
      → IsAtStage header layout group qs s turn (record areas { heap = heap })
  stage-on-heap qs NoGroup size turn fits own at =
      record { status = at.status; parts = record { extents = all-keep n areas.heap heap beside (live layout) apart at.parts.extents; runs = at.parts.runs } }
  stage-on-heap qs (Storing member extent) size turn fits own at = record {
    rests = record {
      status = at.rests.status;
      parts = record { extents = all-keep n areas.heap heap beside (live layout) apart at.rests.parts.extents; runs = at.rests.parts.runs };
    };
    parts_are = at.parts_are;
    written =
        all-hold n areas.heap heap beside _ (all_of_front (λ (f : Extent). IsExtent f
        × (f.number ≢ n)) _ _ (subst (AreBeside n) (sym at.parts_are) (own fits.0))) at.written;
  }
  stage-on-heap qs Stored size turn fits own at = turn-on-heap slots.Begun (own fits) at
  stage-on-heap qs Turning size None fits own at = absurd at
  stage-on-heap qs Turning size (Some t) fits own at =
      record { number = at.number; long = at.long; spelled = at.spelled; at = turn-on-heap t.stage (own fits) at.at }

-- a group that is not in its slot's writing stands so behind one slot more of a job
stage-behind : (header : Header) (layout : Layout) (v : TransactionsValue) (m : Machine Value) (p : Product) (qs : List QueuedValue) (s : GroupStage)
    (turn : Option TurnState) (old : Areas) (status : AreaState) → is_turning s ≡ false
    → StatusRests header (laid_with layout p).slots status → KeepsParts (laid_with layout p) old
    → IsAtStage header layout (group_of layout v m) qs s turn old
    → IsAtStage header (laid_with layout p) (group_of (laid_with layout p) v m) qs s turn (record old { status = status })
stage-behind header layout v m p qs NoGroup turn old status still rests keeps at =
    record { status = rests; parts = record { extents = keeps.extents; runs = keeps.runs } }
stage-behind header layout v m p qs (Storing member extent) turn old status still rests keeps at = record {
  rests = record { status = rests; parts = record { extents = keeps.extents; runs = keeps.runs } };
  parts_are = at.parts_are;
  written = at.written;
}
stage-behind header layout v m p qs Stored turn old status still rests keeps at =
    let group : Group = group_of layout v m in
    let after : Group = group_of (laid_with layout p) v m in
    let own : KeepsExtents (extents_of group.members) old.heap =
    all_of_back (KeepsExtent old.heap) (live layout) (extents_of group.members)
    (subst (λ (es : List Extent). KeepsExtents es old.heap) (live_more layout group) at.new_parts.extents) in
    record {
      status = rests;
      old_parts = record { extents = keeps.extents; runs = keeps.runs };
      new_parts = record {
        extents =
            subst (λ (es : List Extent). KeepsExtents es old.heap) (sym (live_more (laid_with layout p) after))
            (AllByRecursion-append (KeepsExtent old.heap) (live (laid_with layout p)) (extents_of after.members) keeps.extents own);
        runs = keeps.runs;
      };
    }
stage-behind header layout v m p qs Turning turn old status still rests keeps at = absurd cc

-- ---- the store after a step

abbrev Ends : Bool → Machine Value → Result JobDid PumpFault → StoreValue → Type 0
Ends tells m answer v = (after : Machine Value) × steps.Run IsValue m (job_ends_in m answer) after × Stands tells v after

-- what memory keeps of a job, in this store
abbrev Keeps : StoreValue → Machine Value → JobWork → JobStage → Type 0
Keeps v m work stage =
    KeepsWork work stage v.archived (last m.published) v.transactions.opened v.transactions.pending v.transactions.versions v.transactions.floors

-- a call that is made, of which the machine does nothing
stays : (tells : Bool) (new to : StoreValue) (m : Machine Value) (said : JobDid) → floor_ends said m.raising ≡ [] → new ≡ to → Stands tells to m
    → Ends tells m (Ok said) new
stays tells new to m said nothing is parts =
    (m, subst (λ (es : List (Event Value)). Run IsValue m es m) (sym nothing) refl, subst (λ (x : StoreValue). Stands tells x m) (sym is) parts)

-- a refused call leaves the gate so
abbrev pub job_gate_left : Gate → Gate
job_gate_left Shut = Shut
job_gate_left (Due OfGroup) = Due OfGroup
job_gate_left (Due OfFloor) = MayBeOpen OfFloor
job_gate_left (MayBeOpen change) = MayBeOpen change

pub job-breaks : (m : Machine Value) → m.failed ≡ false → (gate : Gate) → m.gate ≡ gate
    → Run IsValue m (job_breaks_in gate) (steps.broken (steps.gated m (job_gate_left gate)))
job-breaks m works Shut is = (steps.broken m, (works, refl), ap (λ (g : Gate). steps.broken (steps.gated m g)) (sym is))
job-breaks m works (Due OfGroup) is = (steps.broken m, (works, refl), ap (λ (g : Gate). steps.broken (steps.gated m g)) (sym is))
job-breaks m works (Due OfFloor) is =
    (steps.gated m (MayBeOpen OfFloor), (works, is, refl), (steps.broken (steps.gated m (MayBeOpen OfFloor)), (works, refl), refl))
job-breaks m works (MayBeOpen change) is = (steps.broken m, (works, refl), ap (λ (g : Gate). steps.broken (steps.gated m g)) (sym is))

-- the same of a machine whose gate is so
pub gated-so : (P : Machine Value → Type 0) (m : Machine Value) (gate : Gate) → gate ≡ m.gate → P m → P (steps.gated m gate)
gated-so P m gate same p = subst (λ (g : Gate). P (steps.gated m g)) (sym same) p

gated-machine : (m : Machine Value) (gate : Gate) → IsMachine IsValue m → IsMachine IsValue (steps.gated m gate)
gated-machine m gate machine = record {
  history = machine.history;
  group_few = machine.group_few;
  group_queued = machine.group_queued;
  floors_reached = machine.floors_reached;
  snapshots = machine.snapshots;
  raising = machine.raising;
}

gated-works : (header : Header) (v : StoreValue) (m : Machine Value) (gate : Gate) → Works header v m → Works header v (steps.gated m gate)
gated-works header v m gate w = record { log = w.log; heap = w.heap; packed = w.packed; group = w.group; job = w.job; sound = w.sound }

-- the machine once the job's slot is open
abbrev pub machine_done : JobWork → Machine Value → Machine Value
machine_done (ArchiveWork run writer) m = m
machine_done (Reclaim anchors source written) m = m
machine_done (FloorWork scope floor floors) m = steps.floor_published m (record { scope = scope; floor = floor })
machine_done (Grow growth) m = m

done-failed : (m : Machine Value) (work : JobWork) → (machine_done work m).failed ≡ m.failed
done-failed m (ArchiveWork run writer) = refl
done-failed m (Reclaim anchors source written) = refl
done-failed m (FloorWork scope floor floors) = refl
done-failed m (Grow growth) = refl

-- no floor is in the making then, and the gate is shut
done-raised : (m : Machine Value) (work : JobWork) → m.raising ≡ raising_by work → (machine_done work m).raising ≡ None
done-raised m (ArchiveWork run writer) raises = raises
done-raised m (Reclaim anchors source written) raises = raises
done-raised m (FloorWork scope floor floors) raises = refl
done-raised m (Grow growth) raises = raises

done-shut : (m : Machine Value) (work : JobWork) → m.gate ≡ gate_for work slots.GateWritten → (machine_done work m).gate ≡ Shut
done-shut m (ArchiveWork run writer) gate = gate
done-shut m (Reclaim anchors source written) gate = gate
done-shut m (FloorWork scope floor floors) gate = refl
done-shut m (Grow growth) gate = gate

begun-shut : (work : JobWork) → gate_for work slots.Begun ≡ Shut
begun-shut (ArchiveWork run writer) = refl
begun-shut (Reclaim anchors source written) = refl
begun-shut (FloorWork scope floor floors) = refl
begun-shut (Grow growth) = refl

-- ---- what the machine does in the calls of the slot

-- what is answered where the slot was at this stage
abbrev said_at : SlotStage → JobDid
said_at slots.Begun = did.BodyWritten
said_at slots.BodyWritten = did.BodySynced
said_at slots.BodySynced = did.GateWritten
said_at slots.GateWritten = did.JobDone
said_at slots.Opened = did.JobDone

pub by-floor : (m after : Machine Value) (said : JobDid) (o : Option Raising) → m.raising ≡ o → Run IsValue m (floor_ends said o) after
    → Run IsValue m (floor_ends said m.raising) after
by-floor m after said o is run = subst (λ (x : Option Raising). Run IsValue m (floor_ends said x) after) (sym is) run

none-told : (m : Machine Value) (gate : Gate) → m.gate ≡ gate → Run IsValue m [] (steps.gated m gate)
none-told m gate is = ap (steps.gated m) (sym is)

-- in a call that is not the last
gate-run : (m : Machine Value) (work : JobWork) (s : SlotStage) → m.failed ≡ false → IsOnItsWay (slots.slot_stage_after s) → m.raising ≡ raising_by work
    → m.gate ≡ gate_for work s
    → Run IsValue m (floor_ends (said_at s) m.raising) (steps.gated m (gate_for work (slots.slot_stage_after s)))
gate-run m (ArchiveWork run writer) s works way raises gate = by-floor m (steps.gated m Shut) (said_at s) None raises (none-told m Shut gate)
gate-run m (Reclaim anchors source written) s works way raises gate = by-floor m (steps.gated m Shut) (said_at s) None raises (none-told m Shut gate)
gate-run m (FloorWork scope floor floors) slots.Begun works way raises gate =
    by-floor m (steps.gated m Shut) did.BodyWritten (Some (record { scope = scope; floor = floor })) raises (none-told m Shut gate)
gate-run m (FloorWork scope floor floors) slots.BodyWritten works way raises gate =
    by-floor m (steps.gated m (Due OfFloor)) did.BodySynced (Some (record { scope = scope; floor = floor })) raises
    (steps.gated m (Due OfFloor), (works, subst (λ (o : Option Raising). IsSome o) (sym raises) refl, gate, refl), refl)
gate-run m (FloorWork scope floor floors) slots.BodySynced works way raises gate =
    by-floor m (steps.gated m (MayBeOpen OfFloor)) did.GateWritten (Some (record { scope = scope; floor = floor })) raises (
      steps.gated m (MayBeOpen OfFloor),
      (works, gate, refl),
      refl,
    )
gate-run m (FloorWork scope floor floors) slots.GateWritten works way raises gate = absurd way
gate-run m (FloorWork scope floor floors) slots.Opened works way raises gate = absurd way
gate-run m (Grow growth) s works way raises gate = by-floor m (steps.gated m Shut) (said_at s) None raises (none-told m Shut gate)

-- and in the last one
done-run : (m : Machine Value) (work : JobWork) → m.failed ≡ false → m.raising ≡ raising_by work → m.gate ≡ gate_for work slots.GateWritten
    → Run IsValue m (floor_ends did.JobDone m.raising) (machine_done work m)
done-run m (ArchiveWork run writer) works raises gate = by-floor m m did.JobDone None raises refl
done-run m (Reclaim anchors source written) works raises gate = by-floor m m did.JobDone None raises refl
done-run m (FloorWork scope floor floors) works raises gate =
    let r : Raising = record { scope = scope; floor = floor } in
    by-floor m (steps.floor_published m r) did.JobDone (Some r) raises (steps.floor_published m r, (works, raises, gate, refl), refl)
done-run m (Grow growth) works raises gate = by-floor m m did.JobDone None raises refl

job-left-is : (s : SlotStage) → MayOpenWithin s → job_gate_left (gate_at OfFloor s) ≡ MayBeOpen OfFloor
job-left-is slots.Begun may = absurd may
job-left-is slots.BodyWritten may = absurd may
job-left-is slots.BodySynced may = refl
job-left-is slots.GateWritten may = refl
job-left-is slots.Opened may = refl

-- a refused call
fails : (tells : Bool) (v new : StoreValue) (m : Machine Value) (why : PumpFault) (log : LogState) (j : Job) → (stands : Stands tells v m)
    → (works : m.failed ≡ false) → why ≡ pump.Failed → log.profile ≡ v.log.profile → log.slots ≡ v.log.slots → log.pieces ≡ v.log.pieces → log.used ≡ v.log.used
    → lent_to v.job ≡ lent_by j.work
    → m.raising ≡ raising_by j.work → Keeps v m j.work j.stage → new
    ≡ record v { transactions = groups.broken v.transactions; log = log; job = Some j; disk = new.disk }
    → ((told : IsTrue tells) (image : Image) → LeavesImage new.disk.areas image
    → OnFront (IsImageOf (stands.disk told).header image) (steps.gated m (job_gate_left m.gate))) → Ends tells m (Err why) new
fails tells v new m why log j stands works said profile many pieces used lent raised keeps is leaves =
    let after : Machine Value = steps.broken (steps.gated m (job_gate_left m.gate)) in
    subst (λ (e : PumpFault). Ends tells m (Err e) new) (sym said) (
      after,
      job-breaks m works m.gate refl,
      subst (λ (x : StoreValue). Stands tells x after) (sym is)
          (goes-on-failed tells v (record v { transactions = groups.broken v.transactions; log = log; job = Some j; disk = new.disk }) m after stands (record {
            memory = breaks v.transactions (steps.gated m (job_gate_left m.gate)) (regated v.transactions m (job_gate_left m.gate) stands.memory);
            machine = broken-machine m (job_gate_left m.gate) stands.machine;
            order = broken-order v.transactions stands.order;
            in_step = record { slots = omega (arith, many, stands.in_step.slots, lent); used = used ∙ stands.in_step.used; turns = λ no. absurd cc };
            gate = λ no. absurd cc;
            raises = raises-so v (record v {
              transactions = groups.broken v.transactions;
              log = log;
              job = Some j;
              disk = new.disk;
            }) m after stands.raises profile refl refl raised;
            marks = stands.marks;
            job = keeps;
          }) refl profile many pieces leaves),
    )

-- a group's gate is no job's
pub own-gate-left : (o : Option TurnState) (job : Option Job) → job_gate job ≡ Shut → job_gate_left (gate_of o job) ≡ gate_of o job
own-gate-left None job shut = ap job_gate_left shut ∙ sym shut
own-gate-left (Some t) job shut = by-stage t.stage
  where
    by-stage : (s : SlotStage) → job_gate_left (gate_at OfGroup s) ≡ gate_at OfGroup s
    by-stage slots.Begun = refl
    by-stage slots.BodyWritten = refl
    by-stage slots.BodySynced = refl
    by-stage slots.GateWritten = refl
    by-stage slots.Opened = refl

-- so is one before the job's slot
fails-still : (tells : Bool) (v new : StoreValue) (m : Machine Value) (why : PumpFault) (j : Job) → (stands : Stands tells v m) → (works : m.failed ≡ false)
    → why ≡ pump.Failed → lent_to v.job ≡ lent_by j.work → turn_of v.job ≡ None
    → m.raising ≡ raising_by j.work → Keeps v m j.work j.stage → new ≡ record v { transactions = groups.broken v.transactions; job = Some j; disk = new.disk }
    → ((told : IsTrue tells) (image : Image) → LeavesImage new.disk.areas image → OnFront (IsImageOf (stands.disk told).header image) m)
    → Ends tells m (Err why) new
fails-still tells v new m why j stands works said lent still raised keeps is leaves =
    let same : job_gate_left m.gate ≡ m.gate =
    ap job_gate_left (stands.gate works) ∙ own-gate-left v.turn v.job (still-shut v.job still) ∙ sym (stands.gate works) in
    fails tells v new m why v.log j stands works said refl refl refl refl lent raised keeps is
    (λ told image left. gated-so (λ (x : Machine Value). OnFront (IsImageOf (stands.disk told).header image) x) m (job_gate_left m.gate) same
    (leaves told image left))

-- ---- what the job makes is written

-- the layout's parts are kept
pub keeps-parts : (header : Header) (v : StoreValue) (m : Machine Value) (w : Works header v m) → KeepsParts w.log.layout v.disk.areas
keeps-parts header v m w =
    let k = parts-of header w.log.layout (group_of w.log.layout v.transactions m) v.transactions.queue v.transactions.stage v.turn
    (record v.disk.areas { status = w.group.rested }) w.group.at in
    record { extents = k.extents; runs = k.runs }

-- what a store keeps of the job that it has
module _ (header : Header) (v : StoreValue) (m : Machine Value) (w : Works header v m) (j : Job) (is : v.job ≡ Some j) where
  pub own : JobIsAt header w.log.layout w.log.reading m.published v.transactions.reserved j v.disk.areas
  own = subst (λ (o : Option Job). HasJob header w.log.layout w.log.reading m.published v.transactions.reserved o v.disk.areas) is w.job

  -- the runs are kept, whatever is written behind them
  behind : (at n : ℕ) (archive : AreaState) → row_end 0 (runs_of w.log.layout.slots) ≤ at → IsLoosened at n v.disk.areas.archive archive
      → KeepsRuns w.log.layout.runs archive
  behind at n archive past loose =
      (archive_beside header w.log.layout w.log.reading at n v.disk.areas archive w.log.laid w.sound past loose (keeps-parts header v m w)).runs

  -- the works of the store with another job, where no slot of a job is in the writing
  works-with : (new : StoreValue) (j' : Job) → turn_of v.job ≡ None → turn_in j'.stage ≡ None → AreSound new.disk.areas → (areas : Areas) → new.disk.areas
      ≡ areas → areas.status ≡ v.disk.areas.status
      → IsAtStage header w.log.layout (group_of w.log.layout v.transactions m) v.transactions.queue v.transactions.stage v.turn
      (record areas { status = w.group.rested })
      → JobIsAt header w.log.layout w.log.reading m.published v.transactions.reserved j' areas → Works header (with_job v j' new) m
  works-with new j' none none' sound areas are status at has = record {
    log = w.log;
    heap = w.heap;
    packed = w.packed;
    group = record {
      rested = w.group.rested;
      rests = subst (λ (a : Areas). IsRested header w.log.layout (turn_in j'.stage) w.group.rested a.status) (sym are)
          (subst (λ (a : AreaState). IsRested header w.log.layout (turn_in j'.stage) w.group.rested a) (sym status)
          (subst (λ (o : Option TurnState). IsRested header w.log.layout o w.group.rested v.disk.areas.status) (none ∙ sym none') w.group.rests));
      at = subst (λ (a : Areas). IsAtStage header w.log.layout (group_of w.log.layout v.transactions m) v.transactions.queue v.transactions.stage v.turn
          (record a { status = w.group.rested })) (sym are) at;
    };
    job = subst (λ (a : Areas). JobIsAt header w.log.layout w.log.reading m.published v.transactions.reserved j' a) (sym are) has;
    sound = sound;
  }

-- a job of which memory keeps something has a slot lent
lends : (v : StoreValue) (m : Machine Value) (work : JobWork) (stage : JobStage) → Keeps v m work stage → lent_by work ≡ 1
lends v m (ArchiveWork run writer) stage keeps = refl
lends v m (Reclaim anchors source written) stage keeps = refl
lends v m (FloorWork scope floor floors) stage keeps = refl
lends v m (Grow growth) stage keeps = absurd keeps

-- the store is in step with another job whose slot is not in the writing
in-step-with : (v new : StoreValue) (j j' : Job) → v.job ≡ Some j → lent_by j.work ≡ lent_by j'.work → turn_of v.job ≡ None → turn_in j'.stage ≡ None
    → IsInStep v → IsInStep (with_job v j' new)
in-step-with v new j j' is alike none none' in_step = record {
  slots = in_step.slots ∙ ap (λ (o : Option Job). v.transactions.slots + lent_to o) is ∙ ap (λ (n : ℕ). v.transactions.slots + n) alike;
  used = in_step.used;
  turns = λ on.
      let was = in_step.turns on in record {
        turning = was.turning;
        writing = was.writing ∙ ap (λ (o : Option TurnState). is_some v.turn || is_some o) (none ∙ sym none');
        turn = was.turn;
        job = subst (λ (o : Option TurnState). MatchOption o (Unit {0}) (λ t. (t.number ≡ v.log.used) × IsOnItsWay t.stage × (v.turn ≡ None))) (sym none') tt;
      };
}

module _ (tells : Bool) (v new : StoreValue) (m : Machine Value) (stands : Stands tells v m) (works : m.failed ≡ false) (sound : IsTrue tells
    → AreSound new.disk.areas) (j : Job) (is : v.job ≡ Some j) where
  kept-so : Keeps v m j.work j.stage
  kept-so =
      subst (λ (o : Option Job). KeepsJobOf o v.archived (last m.published) v.transactions.opened v.transactions.pending v.transactions.versions
      v.transactions.floors) is stands.job

  -- what is left by a call that changed nothing
  same : (told : IsTrue tells) → new.disk.areas ≡ v.disk.areas → (image : Image) → LeavesImage new.disk.areas image
      → OnFront (IsImageOf (stands.disk told).header image) m
  same told is image left =
      let c = working tells v m stands works told in
      works-leave v m c image (subst (λ (a : Areas). LeavesImage a image) is left)

  -- what is left while something is written beside the group and the log
  torn-leaves : (told : IsTrue tells) (areas : Areas)
      → IsAtStage (stands.disk told).header ((stands.disk told).works works).log.layout (group_of ((stands.disk told).works works).log.layout v.transactions m)
      v.transactions.queue v.transactions.stage v.turn areas
      → (image : Image) → LeavesImage areas image → OnFront (IsImageOf (stands.disk told).header image) m
  torn-leaves told areas at image left =
      let c = working tells v m stands works told in
      let w = c.works in
      stage-leaves v m c areas v.transactions.stage v.turn (stands.gate works) stands.order.stage_fits at image left

  -- the store with another job
  moved : (j' : Job) → turn_of v.job ≡ None → turn_in j'.stage ≡ None → m.raising ≡ raising_by j'.work → Keeps v m j'.work j'.stage
      → ((told : IsTrue tells) → Works (stands.disk told).header (with_job v j' new) m) → Stands tells (with_job v j' new) m
  moved j' none none' raised keeps works-so =
      goes-on-working tells v (with_job v j' new) m m stands works
      (record {
        memory = stands.memory;
        machine = stands.machine;
        order = stands.order;
        in_step = in-step-with v new j j' is (lends v m j.work j.stage kept-so ∙ sym (lends v m j'.work j'.stage keeps)) none none' stands.in_step;
        gate = λ on. stands.gate on ∙ gate-beside v.turn v.job (Some j') (still-shut v.job none) (still-shut (Some j') none');
        raises = raises-so v (with_job v j' new) m m stands.raises refl refl refl raised;
        marks = stands.marks;
        job = keeps;
      }) works refl refl refl works-so

-- the first of these have what all have
all-front-of : {X : Type 0} (P : X → Type 0) (n : ℕ) (xs : List X) → AllByRecursion P xs → AllByRecursion P (take n xs)
all-front-of P zero xs all = tt
all-front-of P (suc n) [] all = tt
all-front-of P (suc n) (x ∷ xs) all = (all.0, all-front-of P n xs all.1)

-- ---- a run is written

module _ (tells : Bool) (v new : StoreValue) (m : Machine Value) (stands : Stands tells v m) (works : m.failed ≡ false) (sound : IsTrue tells
    → AreSound new.disk.areas)
    (run : WireRun) (writer : InWriting) (is : v.job ≡ Some (record { work = ArchiveWork run writer; stage = job.Writing })) where
  abbrev archiving : JobWork → JobStage → Job
  archiving work stage = record { work = work; stage = stage }

  still-none : turn_of v.job ≡ None
  still-none = ap turn_of is

  no-floor : m.raising ≡ None
  no-floor = stands.raises.is ∙ ap raising_of is

  -- the run as it is stored
  record OwnRun (layout : Layout) (reading : Reading) (archive : AreaState) : Type 0 where
    pub stored : StoredRun
    pub entry : stored.entry ≡ run
    pub next : IsNextRun layout reading m.published stored
    pub at : IsWritten stored writer archive

  own-run-of : (layout : Layout) (reading : Reading) (areas : Areas) (header : Header) (p : Product)
      → IsMadeBy v.transactions.reserved (ArchiveWork run writer) p → MayBeNext layout reading m.published p
      → IsAtJob header layout (ArchiveWork run writer) p job.Writing areas → OwnRun layout reading areas.archive
  own-run-of layout reading areas header (OfRun stored) made next at = record { stored = stored; entry = made; next = next; at = at }
  own-run-of layout reading areas header (OfAnchors a) made next at = absurd made
  own-run-of layout reading areas header (OfFloor scope floor) made next at = absurd made

  own-run : (told : IsTrue tells) → OwnRun ((stands.disk told).works works).log.layout ((stands.disk told).works works).log.reading v.disk.areas.archive
  own-run told =
      let c = working tells v m stands works told in
      let w = c.works in
      let has = own c.header v m w (archiving (ArchiveWork run writer) job.Writing) is in
      own-run-of w.log.layout w.log.reading v.disk.areas c.header has.product has.made has.next has.at

  abbrev piece : List ℕ
  piece = take 8192 writer.left

  past : (told : IsTrue tells) → row_end 0 (runs_of ((stands.disk told).works works).log.layout.slots) ≤ writer.at
  past told = let has = own-run told in omega (arith, has.at.place, has.next.behind)

  written-on : (told : IsTrue tells) → IsWritten (own-run told).stored (behind_piece writer) (written writer.at piece v.disk.areas.archive)
  written-on told =
      let has = own-run told in
      let at = has.at in
      record {
        front = at.front ++ piece;
        whole = append_assoc at.front piece (drop 8192 writer.left) ∙ ap (λ (l : List ℕ). at.front ++ l) (take-append-drop 8192 writer.left) ∙ at.whole;
        place = omega (arith, at.place, length-append at.front piece);
        held = subst (λ (n : ℕ). HoldsPart has.stored.entry.start (at.front
            ++ piece) (overlaid v.disk.areas.archive.bytes n piece)) (sym at.place)
            (front-grows has.stored.entry.start at.front piece v.disk.areas.archive.bytes at.held);
      }

  run-kept : Keeps v m (ArchiveWork run writer) job.Writing
  run-kept = kept-so tells v new m stands works sound (archiving (ArchiveWork run writer) job.Writing) is

  -- the archive is written behind the runs: where the group is then
  on-archive : (told : IsTrue tells) (areas : Areas) (archive : AreaState) → KeepsRuns ((stands.disk told).works works).log.layout.runs archive
      → IsAtStage (stands.disk told).header ((stands.disk told).works works).log.layout (group_of ((stands.disk told).works works).log.layout v.transactions m)
      v.transactions.queue v.transactions.stage v.turn areas
      → IsAtStage (stands.disk told).header ((stands.disk told).works works).log.layout (group_of ((stands.disk told).works works).log.layout v.transactions m)
      v.transactions.queue v.transactions.stage v.turn (record areas { archive = archive })
  on-archive told areas archive kept at =
      let c = working tells v m stands works told in
      let w = c.works in
      stage-beside c.header w.log.layout (group_of w.log.layout v.transactions m) v.transactions.queue v.transactions.stage v.turn areas archive kept at

  wrote-run : (answer : Result JobDid PumpFault) → WritesRun tells run writer (archiving (ArchiveWork run writer) job.Writing) v answer new
      → Ends tells m answer new
  wrote-run (Ok said) takes =
      let j' : Job = archiving (ArchiveWork run (behind_piece writer)) job.Writing in
      stays tells new (with_job v j' new) m said (ap (floor_ends said) no-floor) takes.moves.1
      (moved tells v new m stands works sound (archiving (ArchiveWork run writer) job.Writing) is j' still-none refl no-floor run-kept (λ told.
      let c = working tells v m stands works told in
      let w = c.works in
      let has = own-run told in
      let archive : AreaState = written writer.at piece v.disk.areas.archive in
      let kept =
      behind c.header v m w (archiving (ArchiveWork run writer) job.Writing) is writer.at (length piece) archive (past told)
      (written_is writer.at piece v.disk.areas.archive (w.sound Archive)) in
      works-with c.header v m w (archiving (ArchiveWork run writer) job.Writing) is new j' still-none refl (sound told)
      (record v.disk.areas { archive = archive }) (takes.call.areas told).written refl
      (on-archive told (record v.disk.areas { status = w.group.rested }) archive kept w.group.at)
      (record { product = OfRun has.stored; made = has.entry; next = has.next; at = written-on told })))
  wrote-run (Err why) takes =
      fails-still tells v new m why (archiving (ArchiveWork run (behind_piece writer)) job.Writing) stands works takes.moves.0 (ap lent_to is) still-none
      no-floor run-kept takes.moves.1 (λ told image left.
      let c = working tells v m stands works told in
      let w = c.works in
      let archive : AreaState = loosened writer.at (length piece) v.disk.areas.archive.bytes v.disk.areas.archive in
      let kept =
      behind c.header v m w (archiving (ArchiveWork run writer) job.Writing) is writer.at (length piece) archive (past told)
      (loosened_is writer.at (length piece) v.disk.areas.archive) in
      torn-leaves tells v new m stands works sound (archiving (ArchiveWork run writer) job.Writing) is told (record v.disk.areas { archive = archive })
      (on-archive told v.disk.areas archive kept (now-at v m c still-none)) image
      ((left_by_write Archive writer.at piece (Err (record {})) v.disk.areas new.disk.areas (takes.call.areas told) w.sound).each image left))

  synced-run : (answer : Result JobDid PumpFault) → writer.left ≡ []
      → SyncsStored tells Archive did.RunSynced (archiving (ArchiveWork run writer) job.Writing) v answer new → Ends tells m answer new
  synced-run (Ok said) all takes =
      let j' : Job = archiving (ArchiveWork run writer) job.Stored in
      stays tells new (with_job v j' new) m said (ap (floor_ends said) no-floor) takes.moves.1
      (moved tells v new m stands works sound (archiving (ArchiveWork run writer) job.Writing) is j' still-none refl no-floor run-kept (λ told.
      let c = working tells v m stands works told in
      let w = c.works in
      let has = own-run told in
      let at = has.at in
      let archive : AreaState = synced v.disk.areas.archive in
      let kept =
      weaker (KeepsRun v.disk.areas.archive) (KeepsRun archive) w.log.layout.runs
      (λ s kept. kept_by_sync s.entry.start (run_bytes s.records) v.disk.areas.archive (w.sound Archive) kept) (keeps-parts c.header v m w).runs in
      let whole : at.front ≡ run_bytes has.stored.records = sym (append-nil at.front) ∙ ap (λ (l : List ℕ). at.front ++ l) (sym all) ∙ at.whole in
      works-with c.header v m w (archiving (ArchiveWork run writer) job.Writing) is new j' still-none refl (sound told)
      (record v.disk.areas { archive = archive }) (takes.call.areas told).synced refl
      (on-archive told (record v.disk.areas { status = w.group.rested }) archive kept w.group.at)
      (record {
        product = OfRun has.stored;
        made = has.entry;
        next = has.next;
        at = synced_part has.stored.entry.start (run_bytes has.stored.records) v.disk.areas.archive
            (subst (λ (l : List ℕ). HoldsPart has.stored.entry.start l v.disk.areas.archive.bytes) whole at.held);
      })))
  synced-run (Err why) all takes =
      fails-still tells v new m why (archiving (ArchiveWork run writer) job.Writing) stands works takes.moves.0 (ap lent_to is) still-none no-floor run-kept
      takes.moves.1
      (λ told image left. same tells v new m stands works sound (archiving (ArchiveWork run writer) job.Writing) is told (takes.call.areas told).same image
      left)

  run-step : (left : List ℕ) → writer.left ≡ left → (answer : Result JobDid PumpFault)
      → WritesOrSyncs tells left run writer (archiving (ArchiveWork run writer) job.Writing) v answer new → Ends tells m answer new
  run-step [] all answer takes = synced-run answer all takes
  run-step (b ∷ bs) all answer takes = wrote-run answer takes

-- ---- anchors are written

module _ (tells : Bool) (v new : StoreValue) (m : Machine Value) (stands : Stands tells v m) (works : m.failed ≡ false) (sound : IsTrue tells
    → AreSound new.disk.areas)
    (anchors : Anchors) (source : Sourced) (done : ℕ) (is : v.job ≡ Some (record { work = Reclaim anchors source done; stage = job.Writing })) where
  abbrev reclaiming : Sourced → ℕ → JobStage → Job
  reclaiming left n stage = record { work = Reclaim anchors left n; stage = stage }

  abbrev now : Job
  now = reclaiming source done job.Writing

  none-turning : turn_of v.job ≡ None
  none-turning = ap turn_of is

  no-floor-raised : m.raising ≡ None
  no-floor-raised = stands.raises.is ∙ ap raising_of is

  -- the anchors as they are stored
  record OwnAnchors (layout : Layout) (reading : Reading) (heap : AreaState) : Type 0 where
    pub stored : StoredAnchors
    pub entry : stored.entry ≡ anchors
    pub numbers : map (λ (e : Extent). e.number) stored.extents ≡ v.transactions.reserved
    pub next : IsNextChain reading stored
    pub at : IsFilling stored source done heap

  own-anchors-of : (layout : Layout) (reading : Reading) (areas : Areas) (header : Header) (p : Product)
      → IsMadeBy v.transactions.reserved (Reclaim anchors source done) p → MayBeNext layout reading m.published p
      → IsAtJob header layout (Reclaim anchors source done) p job.Writing areas → OwnAnchors layout reading areas.heap
  own-anchors-of layout reading areas header (OfRun stored) made next at = absurd made
  own-anchors-of layout reading areas header (OfFloor scope floor) made next at = absurd made
  own-anchors-of layout reading areas header (OfAnchors a) made next at = record { stored = a; entry = made.0; numbers = made.1; next = next; at = at }

  own-anchors : (told : IsTrue tells) → OwnAnchors ((stands.disk told).works works).log.layout ((stands.disk told).works works).log.reading v.disk.areas.heap
  own-anchors told =
      let c = working tells v m stands works told in
      let w = c.works in
      let has = own c.header v m w now is in
      own-anchors-of w.log.layout w.log.reading v.disk.areas c.header has.product has.made has.next has.at

  chain-kept : Keeps v m (Reclaim anchors source done) job.Writing
  chain-kept = kept-so tells v new m stands works sound now is

  -- the group's extents are none of those that are out for the job
  group-apart : (told : IsTrue tells) (n : ℕ) → AllByRecursion (λ (k : ℕ). k ≢ n) (flat_map numbers_of v.transactions.queue) → 0 < v.transactions.group
      → AreBeside n (extents_of (group_of ((stands.disk told).works works).log.layout v.transactions m).members)
  group-apart told n others some =
      let c = working tells v m stands works told in
      let w = c.works in
      let named = joining.numbers v m c some in
      let front =
      all_of_front (λ (k : ℕ). k ≢ n) (flat_map numbers_of (take v.transactions.group v.transactions.queue))
      (flat_map numbers_of (drop v.transactions.group v.transactions.queue))
      (subst (AllByRecursion (λ (k : ℕ). k ≢ n)) (numbers-split v.transactions.group v.transactions.queue) others) in
      beside-numbers n (extents_of (group_of w.log.layout v.transactions m).members)
      (joining.group_are v m c some)
      (subst (AllByRecursion (λ (k : ℕ). k ≢ n)) (sym named) front)

  -- the heap is written beside the group: where the group is then
  on-heap : (told : IsTrue tells) (areas : Areas) (heap : AreaState) (n : ℕ) → IsBeside n areas.heap heap
      → AreBeside n (live ((stands.disk told).works works).log.layout)
      → (0 < v.transactions.group → AreBeside n (extents_of (group_of ((stands.disk told).works works).log.layout v.transactions m).members))
      → IsAtStage (stands.disk told).header ((stands.disk told).works works).log.layout (group_of ((stands.disk told).works works).log.layout v.transactions m)
      v.transactions.queue v.transactions.stage v.turn areas
      → IsAtStage (stands.disk told).header ((stands.disk told).works works).log.layout (group_of ((stands.disk told).works works).log.layout v.transactions m)
      v.transactions.queue v.transactions.stage v.turn (record areas { heap = heap })
  on-heap told areas heap n beside apart mine at =
      let c = working tells v m stands works told in
      let w = c.works in
      stage-on-heap c.header w.log.layout (group_of w.log.layout v.transactions m) areas heap n beside apart v.transactions.queue v.transactions.stage
      v.transactions.group v.turn stands.order.stage_fits mine at

  -- the next extent of the chain
  record OwnExtent (layout : Layout) (stored : StoredAnchors) (number : ℕ) (image : List ℕ) (left : Sourced) : Type 0 where
    pub extent : Extent
    pub is_extent : IsExtent extent
    pub number_is : extent.number ≡ number
    pub image_is : image ≡ extent_bytes extent
    pub front : take (done + 1) stored.extents ≡ take done stored.extents ++ extent ∷ []
    pub rest : map (λ (e : Extent). e.body) (drop (done + 1) stored.extents) ≡ bodies (map record_spelling left.left)
    pub live : AreBeside extent.number (live layout)
    pub before : AllByRecursion (λ (f : Extent). f.number ≢ extent.number) (take done stored.extents)
    pub queued : AllByRecursion (λ (k : ℕ). k ≢ extent.number) (flat_map numbers_of v.transactions.queue)

  next-extent : (told : IsTrue tells) (number : ℕ) → slice_get v.transactions.reserved done ≡ Some number
      → (takes : (image : List ℕ) × (filled : FilledExtent) × (left : Sourced)
      × IsFilled number (first_number (drop (done + 1) v.transactions.reserved)) source.left image filled left.left)
      → OwnExtent ((stands.disk told).works works).log.layout (own-anchors told).stored number takes.0 takes.2
  next-extent told number there takes =
      let c = working tells v m stands works told in
      let w = c.works in
      let has = own-anchors told in
      let a : StoredAnchors = has.stored in
      let fill =
      fill-is a v.transactions.reserved source done number v.disk.areas.heap takes.0 takes.1 takes.2.left has.next.chain has.numbers has.at there takes.3 in
      let e : Extent = fill.extent in
      let split : take done a.extents ++ e ∷ drop (done + 1) a.extents ≡ a.extents =
      ap (λ (l : List Extent). take done a.extents ++ l) (sym fill.rest) ∙ take-append-drop done a.extents in
      let each = subst (AllByRecursion IsExtent) (sym split) has.next.chain.is_chain.each in
      let of : Extent → ℕ = λ f. f.number in
      let named : map of (take done a.extents) ++ e.number ∷ map of (drop (done + 1) a.extents) ≡ v.transactions.reserved =
      sym (map-append of (take done a.extents) (e ∷ drop (done + 1) a.extents)) ∙ ap (map of) split ∙ has.numbers in
      let swapped = out-swapped v.transactions.usages (flat_map numbers_of v.transactions.queue) v.transactions.reserved stands.order.out in
      let whole = subst (AreOut v.transactions.usages)
      (ap (λ (l : List ℕ). l ++ flat_map numbers_of v.transactions.queue) (sym named)
      ∙ append_assoc (map of (take done a.extents)) (e.number ∷ map of (drop (done + 1) a.extents)) (flat_map numbers_of v.transactions.queue)) swapped in
      let middle =
      out-middle v.transactions.usages (map of (take done a.extents)) (map of (drop (done + 1) a.extents)
      ++ flat_map numbers_of v.transactions.queue) e.number whole in
      let free = job-free v m c (Reclaim anchors source done) (OfAnchors a) (has.entry, has.numbers) has.next in
      let apart = others e (live w.log.layout ++ take done a.extents) (drop (done + 1) a.extents)
      (subst AreDistinct (ap (λ (l : List Extent). live w.log.layout ++ l) (sym split)
      ∙ sym (append_assoc (live w.log.layout) (take done a.extents) (e ∷ drop (done + 1) a.extents))) free) in
      record {
        extent = e;
        is_extent = (all_of_back IsExtent (take done a.extents) (e ∷ drop (done + 1) a.extents) each).0;
        number_is = fill.number_is;
        image_is = fill.image_is;
        front = fill.front;
        rest = fill.others;
        live = beside-out v.transactions.usages e.number middle.0 (live w.log.layout) (live_extents_are c.header w.log.layout w.log.reading w.log.laid)
            w.heap.kept;
        before = all_of_back (λ (f : Extent). f.number ≢ e.number) (live w.log.layout) (take done a.extents) apart;
        queued = all_of_back (λ (k : ℕ). k ≢ e.number) (map of (drop (done + 1) a.extents)) (flat_map numbers_of v.transactions.queue) middle.1;
      }

  -- a write of it, in full or in part, is beside all others
  beside-it : (told : IsTrue tells) (number : ℕ) (image : List ℕ) (left : Sourced)
      → OwnExtent ((stands.disk told).works works).log.layout (own-anchors told).stored number image left
      → IsBeside number v.disk.areas.heap (written (extent_start number) image v.disk.areas.heap)
      × IsBeside number v.disk.areas.heap (loosened (extent_start number) (length image) v.disk.areas.heap.bytes v.disk.areas.heap)
  beside-it told number image left mine =
      let w = (stands.disk told).works works in
      subst (λ (bytes : List ℕ). IsBeside number v.disk.areas.heap (written (extent_start number) bytes v.disk.areas.heap)
      × IsBeside number v.disk.areas.heap (loosened (extent_start number) (length bytes) v.disk.areas.heap.bytes v.disk.areas.heap)) (sym mine.image_is)
      (subst (λ (n : ℕ). IsBeside n v.disk.areas.heap (written (extent_start n) (extent_bytes mine.extent) v.disk.areas.heap)
      × IsBeside n v.disk.areas.heap (loosened (extent_start n) (length (extent_bytes mine.extent)) v.disk.areas.heap.bytes v.disk.areas.heap))
      mine.number_is
      (write-beside mine.extent mine.is_extent v.disk.areas.heap (w.sound Heap), torn-beside mine.extent mine.is_extent v.disk.areas.heap (w.sound Heap)))

  wrote-anchors : (number : ℕ) → slice_get v.transactions.reserved done ≡ Some number → (answer : Result JobDid PumpFault)
      → WritesAnchors tells anchors source done number now v answer new → Ends tells m answer new
  wrote-anchors number there (Ok said) takes =
      let j' : Job = reclaiming takes.behind (done + 1) job.Writing in
      stays tells new (with_job v j' new) m said (ap (floor_ends said) no-floor-raised) takes.moves.1
      (moved tells v new m stands works sound now is j' none-turning refl no-floor-raised chain-kept (λ told.
      let c = working tells v m stands works told in
      let w = c.works in
      let has = own-anchors told in
      let mine = next-extent told number there (takes.image, takes.filled, takes.behind, takes.is_filled) in
      let heap : AreaState = written (extent_start number) takes.image v.disk.areas.heap in
      let beside : IsBeside number v.disk.areas.heap heap = (beside-it told number takes.image takes.behind mine).0 in
      let live-apart : AreBeside number (live w.log.layout) = subst (λ (n : ℕ). AreBeside n (live w.log.layout)) mine.number_is mine.live in
      let group-is =
      λ (some : 0 < v.transactions.group). group-apart told number
      (subst (λ (n : ℕ). AllByRecursion (λ (k : ℕ). k ≢ n) (flat_map numbers_of v.transactions.queue)) mine.number_is mine.queued) some in
      let held : AllByRecursion (HoldsExtent heap.bytes) (take done has.stored.extents ++ mine.extent ∷ []) =
      subst (λ (n : ℕ). AllByRecursion (HoldsExtent (overlaid v.disk.areas.heap.bytes (extent_start n) takes.image)) (take done has.stored.extents
      ++ mine.extent ∷ [])) mine.number_is
      (subst (λ (bytes : List ℕ). AllByRecursion (HoldsExtent (overlaid v.disk.areas.heap.bytes (extent_start mine.extent.number) bytes))
      (take done has.stored.extents ++ mine.extent ∷ [])) (sym mine.image_is)
      (one_more_held mine.extent mine.is_extent (take done has.stored.extents) (all-front-of IsExtent done has.stored.extents has.next.chain.is_chain.each)
      mine.before v.disk.areas.heap.bytes has.at.held)) in
      works-with c.header v m w now is new j' none-turning refl (sound told) (record v.disk.areas { heap = heap }) (takes.call.areas told).written refl
      (on-heap told (record v.disk.areas { status = w.group.rested }) heap number beside live-apart group-is w.group.at)
      (record {
        product = OfAnchors has.stored;
        made = (has.entry, has.numbers);
        next = has.next;
        at = record { rest = mine.rest; held = subst (AllByRecursion (HoldsExtent heap.bytes)) (sym mine.front) held };
      })))
  wrote-anchors number there (Err why) takes =
      fails-still tells v new m why (reclaiming takes.behind (done + 1) job.Writing) stands works takes.moves.0 (ap lent_to is) none-turning no-floor-raised
      chain-kept takes.moves.1 (λ told image left.
      let c = working tells v m stands works told in
      let w = c.works in
      let mine = next-extent told number there (takes.image, takes.filled, takes.behind, takes.is_filled) in
      let heap : AreaState = loosened (extent_start number) (length takes.image) v.disk.areas.heap.bytes v.disk.areas.heap in
      let beside : IsBeside number v.disk.areas.heap heap = (beside-it told number takes.image takes.behind mine).1 in
      let live-apart : AreBeside number (live w.log.layout) = subst (λ (n : ℕ). AreBeside n (live w.log.layout)) mine.number_is mine.live in
      let group-is =
      λ (some : 0 < v.transactions.group). group-apart told number
      (subst (λ (n : ℕ). AllByRecursion (λ (k : ℕ). k ≢ n) (flat_map numbers_of v.transactions.queue)) mine.number_is mine.queued) some in
      torn-leaves tells v new m stands works sound now is told (record v.disk.areas { heap = heap })
      (on-heap told v.disk.areas heap number beside live-apart group-is (now-at v m c none-turning)) image
      ((left_by_write Heap (extent_start number) takes.image (Err (record {})) v.disk.areas new.disk.areas (takes.call.areas told) w.sound).each image left))

  synced-anchors : slice_get v.transactions.reserved done ≡ None → (answer : Result JobDid PumpFault) → SyncsStored tells Heap did.HeapSynced now v answer new
      → Ends tells m answer new
  synced-anchors none (Ok said) takes =
      let j' : Job = reclaiming source done job.Stored in
      stays tells new (with_job v j' new) m said (ap (floor_ends said) no-floor-raised) takes.moves.1
      (moved tells v new m stands works sound now is j' none-turning refl no-floor-raised chain-kept (λ told.
      let c = working tells v m stands works told in
      let w = c.works in
      let has = own-anchors told in
      let heap : AreaState = synced v.disk.areas.heap in
      let live-are = live_extents_are c.header w.log.layout w.log.reading w.log.laid in
      let group-is : 0 < v.transactions.group → AreBeside 0 (extents_of (group_of w.log.layout v.transactions m).members) =
      λ some.
      beside-none (extents_of (group_of w.log.layout v.transactions m).members)
      (joining.group_are v m c some) in
      works-with c.header v m w now is new j' none-turning refl (sound told) (record v.disk.areas { heap = heap }) (takes.call.areas told).synced refl
      (on-heap told (record v.disk.areas { status = w.group.rested }) heap 0 (sync-beside v.disk.areas.heap (w.sound Heap))
      (beside-none (live w.log.layout) live-are) group-is w.group.at)
      (record {
        product = OfAnchors has.stored;
        made = (has.entry, has.numbers);
        next = has.next;
        at = extents_synced has.stored.extents v.disk.areas.heap
            (subst (AllByRecursion (HoldsExtent v.disk.areas.heap.bytes)) (all-filled has.stored v.transactions.reserved done has.numbers none) has.at.held);
      })))
  synced-anchors none (Err why) takes =
      fails-still tells v new m why now stands works takes.moves.0 (ap lent_to is) none-turning no-floor-raised chain-kept takes.moves.1
      (λ told image left. same tells v new m stands works sound now is told (takes.call.areas told).same image left)

  anchors-step : (o : Option ℕ) → slice_get v.transactions.reserved done ≡ o → (answer : Result JobDid PumpFault)
      → AnchorsOrSync tells o anchors source done now v answer new → Ends tells m answer new
  anchors-step None there answer takes = synced-anchors there answer takes
  anchors-step (Some number) there answer takes = wrote-anchors number there answer takes

-- ---- the slot of what the job makes

slot-front : (profile number : ℕ) (p : Product) → length (front_of profile (slot_naming number p)) ≤ 39
unfolding front_of fields_of u16_bytes u32_bytes u64_bytes
slot-front profile number (OfRun run) = omega arith
slot-front profile number (OfAnchors a) = omega arith
slot-front profile number (OfFloor scope floor) =
    elim (profile == 3) as (λ (b : Bool). length (4 ∷ 0 ∷ 0
    ∷ (u32_bytes number ++ (u64_bytes floor ++ cond b (u16_bytes (unwrap_or scope 0)) []))) ≤ 39) [ true ↦ omega arith | false ↦ omega arith ]

slot-long : (profile number : ℕ) (p : Product) → length (spelling profile (slot_naming number p)) ≡ 511
unfolding spelling
slot-long profile number p = let front = slot-front profile number p in simp (length-append, length-replicate) (omega (arith, front))

covers-own : (scope : Option ℕ) → IsTrue (covers scope (covered scope))
covers-own None = search rules
covers-own (Some only) = search rules

slot-in-range : (layout : Layout) (reading : Reading) (h : History Value) (profile : ℕ) (p : Product) → reading.profile ≡ profile → MayBeNext layout reading h p
    → InRange profile (body_of p)
slot-in-range layout reading h profile (OfRun run) same next = next.in_range
slot-in-range layout reading h profile (OfAnchors a) same next = next.in_range
slot-in-range layout reading h profile (OfFloor scope floor) same next = (
  let above =
      next.rises (covered scope) (covers-own scope) in omega (arith, above),
  next.in_range,
  subst (λ (n : ℕ). IsRelationOf n scope) same next.scope_is,
)

-- what the slot says is what the job made
body-is : (reserved : List ℕ) (work : JobWork) (p : Product) → IsMadeBy reserved work p → body_of p ≡ slot_body work
body-is reserved (ArchiveWork run writer) (OfRun r) made = ap (λ (x : WireRun). ArchivedBody x) made
body-is reserved (ArchiveWork run writer) (OfAnchors a) made = absurd made
body-is reserved (ArchiveWork run writer) (OfFloor only to) made = absurd made
body-is reserved (Reclaim anchors source written) (OfFloor only to) made = absurd made
body-is reserved (FloorWork scope floor floors) (OfRun r) made = absurd made
body-is reserved (FloorWork scope floor floors) (OfAnchors a) made = absurd made
body-is reserved (FloorWork scope floor floors) (OfFloor only to) made = λ i. FloorBody (made.0 i) (made.1 i)
body-is reserved (Grow growth) p made = absurd made
body-is reserved (Reclaim anchors source written) (OfRun r) made = absurd made
body-is reserved (Reclaim anchors source written) (OfAnchors a) made = ap (λ (x : Anchors). ReclaimedBody x) made.0

-- it is kept beside what the log names
product-kept : (layout : Layout) (p : Product) (areas : Areas) → KeepsParts layout areas → KeepsProduct p areas → KeepsParts (laid_with layout p) areas
product-kept layout (OfFloor scope floor) areas parts kept = record { extents = parts.extents; runs = parts.runs }
product-kept layout (OfRun run) areas parts kept = archive_kept layout (slot_naming (length layout.slots) (OfRun run)) run areas parts kept
product-kept layout (OfAnchors a) areas parts kept =
    reclaim_kept layout (slot_naming (length layout.slots) (OfAnchors a)) a.entry.upto a.extents areas parts kept

-- the first call of the slot, and every other one
module _ (v new : StoreValue) (m : Machine Value) (c : Working v m) (j : Job) (is : v.job ≡ Some j) where
  abbrev header : Header
  header = c.header

  abbrev w : Works c.header v m
  w = c.works

  abbrev mine : JobIsAt header w.log.layout w.log.reading m.published v.transactions.reserved j v.disk.areas
  mine = own header v m w j is

  abbrev product : Product
  product = mine.product

  place : length w.log.layout.slots < total header
  place = job-room v m c (ap lent_to is ∙ made-lends v.transactions.reserved j.work product mine.made)

  free-now : IsFree w.log.layout product
  free-now = job-free v m c j.work product mine.made mine.next

  -- the slot is begun: what the job made is kept, and the status area rests
  begun : j.stage ≡ job.Stored → v.transactions.failed ≡ false → v.turn ≡ None → IsTurnFor header w.log.layout product (first_turn v j) v.disk.areas
  begun stored on free =
      let kept : KeepsProduct product v.disk.areas = subst (λ (s : JobStage). IsAtJob header w.log.layout j.work product s v.disk.areas) stored mine.at in
      let none : turn_of v.job ≡ None = ap turn_of is ∙ ap turn_in stored in
      let turning : is_turning v.transactions.stage ≡ false = (c.inside.in_step.turns on).turning ∙ ap (λ (o : Option TurnState). is_some o) free in
      let at = now-at v m c none in
      let parts = keeps-parts header v m w in
      let number = sym w.log.used in
      let what = body-is v.transactions.reserved j.work product mine.made in
      let same : spelling header.profile (slot_naming (length w.log.layout.slots) product)
      ≡ spelling v.log.profile (record { number = v.log.used; body = slot_body j.work }) =
      (let p = sym c.profile in λ i. spelling (p i) (record { number = number i; body = what i })) in
      let whole : IsSpelled header.profile (length w.log.layout.slots) (spelling header.profile (slot_naming (length w.log.layout.slots) product))
      (slot_naming (length w.log.layout.slots) product) =
      record {
        own = refl;
        in_range = slot-in-range w.log.layout w.log.reading m.published header.profile product w.log.laid.heap.profile_is mine.next;
        bytes_are = refl;
      } in
      record {
        number = w.log.used;
        long = subst (λ (l : List ℕ). length l ≡ 511) same (slot-long header.profile (length w.log.layout.slots) product);
        spelled = subst (λ (l : List ℕ). IsSpelled header.profile (length w.log.layout.slots) l (slot_naming (length w.log.layout.slots) product)) same whole;
        at = record {
          status = rests-of header w.log.layout (group_of w.log.layout v.transactions m) v.transactions.queue v.transactions.stage v.turn v.disk.areas turning
              at;
          old_parts = parts;
          new_parts = product-kept w.log.layout product v.disk.areas parts kept;
        };
      }

  module _ (t : TurnState) (at : IsTurnFor header w.log.layout product t v.disk.areas) where
    abbrev slot : Slot
    slot = slot_naming (length w.log.layout.slots) product

    abbrev behind-it : Layout
    behind-it = laid_with w.log.layout product

    own-call : (answer : Result (Unit {0}) DeviceFault) → IsSlotCall t.number t.body t.stage answer v.disk.areas new.disk.areas
        → IsSlotCall (length w.log.layout.slots) t.body t.stage answer v.disk.areas new.disk.areas
    own-call answer call = subst (λ (n : ℕ). IsSlotCall n t.body t.stage answer v.disk.areas new.disk.areas) at.number call

    -- a refused call leaves what a stop within it leaves
    turn-leaves : (gate : Gate) → (MayOpenWithin t.stage → MayStand product (steps.gated m gate))
        → IsSlotCall t.number t.body t.stage (Err (record {})) v.disk.areas new.disk.areas → (image : Image) → LeavesImage new.disk.areas image
        → OnFront (IsImageOf header image) (steps.gated m gate)
    turn-leaves gate may call image left =
        product-leaves-within header (steps.gated m gate) w.log.layout w.log.reading w.log.laid w.log.stands c.profile_built w.log.built place product mine.next
        free-now t.body at.long at.spelled t.stage (Err (record {})) v.disk.areas new.disk.areas image may at.at w.sound
        (own-call (Err (record {})) call) left

    turn-leads : IsSlotCall t.number t.body t.stage (Ok tt) v.disk.areas new.disk.areas
        → IsTurnAt header w.log.layout slot behind-it (slots.slot_stage_after t.stage) new.disk.areas
    turn-leads call =
        product-leads header m w.log.layout w.log.reading w.log.laid w.log.stands c.profile_built w.log.built place product mine.next free-now t.body at.long
        at.spelled t.stage v.disk.areas new.disk.areas at.at w.sound (own-call (Ok tt) call)

    -- the works of the store while the slot goes on; the group is where it was
    turning-works : (log : LogState) → log.used ≡ v.log.used → AreSound new.disk.areas → (rested : AreaState) → StatusRests header w.log.layout.slots rested
        → IsSound rested
        → IsAtStage header w.log.layout (group_of w.log.layout v.transactions m) v.transactions.queue v.transactions.stage v.turn
        (record v.disk.areas { status = rested })
        → IsSlotCall t.number t.body t.stage (Ok tt) v.disk.areas new.disk.areas
        → Works header (record v {
          log = log;
          job = Some (record j { stage = job.Turning (record t { stage = slots.slot_stage_after t.stage }) });
          disk = new.disk;
        }) m
    turning-works log used sound rested rests whole stands call =
        let areas = slot-alone t.stage t.number t.body v.disk.areas new.disk.areas call in
        record {
          log = record {
            layout = w.log.layout;
            reading = w.log.reading;
            laid = w.log.laid;
            stands = w.log.stands;
            built = w.log.built;
            used = used ∙ w.log.used;
            archived = w.log.archived;
            reclaimed = w.log.reclaimed;
            runs_end = w.log.runs_end;
          };
          heap = w.heap;
          packed = w.packed;
          group = record {
            rested = rested;
            rests = (rests, whole);
            at = subst (λ (a : Areas). IsAtStage header w.log.layout (group_of w.log.layout v.transactions m) v.transactions.queue v.transactions.stage v.turn
                (record a { status = rested })) (sym areas) stands;
          };
          job = record {
            product = product;
            made = mine.made;
            next = mine.next;
            at = record { number = at.number; long = at.long; spelled = at.spelled; at = turn-leads call };
          };
          sound = sound;
        }

    -- ---- once it is open

    -- what is told of the log, of the marks and of memory, by the kind of the job
    record IsDone (after : StoreValue) (layout : Layout) (reading : Reading) : Type 0 where
      pub kept : AllByRecursion (λ (e : Extent). IsKept after.transactions.usages e.number) (live layout)
      pub times : HasTimes after.transactions.times layout.members
      pub times_long : length after.transactions.times ≡ 65536
      pub heap : (key : Key) → writes_of after.transactions.versions key ≡ heap_facts reading key
      pub archived : after.archived ≡ archived_upto reading
      pub reclaimed : after.transactions.reclaimed ≡ reclaimed_upto reading
      pub runs_end : after.runs_end ≡ row_end 0 (runs_of layout.slots)

    done-by : (work : JobWork) (p : Product) → IsMadeBy v.transactions.reserved work p → MayBeNext w.log.layout w.log.reading m.published p
        → KeepsWork work (job.Turning t) v.archived (last m.published) v.transactions.opened v.transactions.pending v.transactions.versions
        v.transactions.floors
        → IsOrdered v.transactions.versions → IsDone (work_done work v) (laid_with w.log.layout p) (read_with w.log.reading p)
    done-by (ArchiveWork run writer) (OfRun r) made next keeps sorted =
        let slot' : Slot = slot_naming (length w.log.layout.slots) (OfRun r) in
        let more : runs_of (w.log.layout.slots ++ slot' ∷ []) ≡ runs_of w.log.layout.slots ++ r.entry ∷ [] =
        flat_map-append (λ (s : Slot). runs_in s.body) w.log.layout.slots (slot' ∷ []) in
        record {
          kept = w.heap.kept;
          times = w.heap.times;
          times_long = w.heap.times_long;
          heap = w.heap.facts;
          archived = ap (λ (x : WireRun). x.upto) (sym made) ∙ sym (archive_mark-append 0 w.log.reading.log (Archived r.entry.upto ∷ []));
          reclaimed = w.log.reclaimed ∙ sym (reclaim_mark-append 0 w.log.reading.log (Archived r.entry.upto ∷ []));
          runs_end = ap (λ (x : WireRun). x.start + x.len) (sym made) ∙ sym (ap (row_end 0) more ∙ row_end-more 0 (runs_of w.log.layout.slots) r.entry);
        }
    done-by (ArchiveWork run writer) (OfAnchors a) made next keeps sorted = absurd made
    done-by (Grow growth) p made next keeps sorted = absurd made
    done-by (ArchiveWork run writer) (OfFloor only to) made next keeps sorted = absurd made
    done-by (FloorWork scope floor floors) (OfRun r) made next keeps sorted = absurd made
    done-by (FloorWork scope floor floors) (OfAnchors a) made next keeps sorted = absurd made
    done-by (FloorWork scope floor floors) (OfFloor only to) made next keeps sorted =
        let slot' : Slot = slot_naming (length w.log.layout.slots) (OfFloor only to) in
        let more : runs_of (w.log.layout.slots ++ slot' ∷ []) ≡ runs_of w.log.layout.slots =
        flat_map-append (λ (s : Slot). runs_in s.body) w.log.layout.slots (slot' ∷ []) ∙ append-nil (runs_of w.log.layout.slots) in
        record {
          kept = w.heap.kept;
          times = w.heap.times;
          times_long = w.heap.times_long;
          heap = w.heap.facts;
          archived = w.log.archived ∙ sym (archive_mark-append 0 w.log.reading.log (FloorSlot only to ∷ []));
          reclaimed = w.log.reclaimed ∙ sym (reclaim_mark-append 0 w.log.reading.log (FloorSlot only to ∷ []));
          runs_end = w.log.runs_end ∙ sym (ap (row_end 0) more);
        }
    done-by (Reclaim anchors source written) (OfFloor only to) made next keeps sorted = absurd made
    done-by (Reclaim anchors source written) (OfRun r) made next keeps sorted = absurd made
    done-by (Reclaim anchors source written) (OfAnchors a) made next keeps sorted =
        let slot' : Slot = slot_naming (length w.log.layout.slots) (OfAnchors a) in
        let mark : anchors.upto ≡ archived_upto w.log.reading = ap (λ (x : Anchors). x.upto) (sym made.0) ∙ next.upto in
        let upto : a.entry.upto ≡ anchors.upto = ap (λ (x : Anchors). x.upto) made.0 in
        let pending : v.transactions.pending ≡ Some (forgotten anchors.upto v.transactions.versions) = keeps.made refl in
        let more : runs_of (w.log.layout.slots ++ slot' ∷ []) ≡ runs_of w.log.layout.slots =
        flat_map-append (λ (s : Slot). runs_in s.body) w.log.layout.slots (slot' ∷ []) ∙ append-nil (runs_of w.log.layout.slots) in
        record {
          kept = subst (λ (n : ℕ). AllByRecursion (λ (e : Extent). IsKept (reclaimed_to v.transactions anchors.upto).usages e.number)
              (live (reclaimed w.log.layout slot' n a.extents))) (sym upto)
              (reclaimed-kept v.transactions anchors.upto w.log.layout slot' a.extents c.inside.order made.1 w.heap.kept w.heap.times);
          times = subst (λ (n : ℕ). HasTimes (reclaimed_to v.transactions anchors.upto).times (reclaimed w.log.layout slot' n a.extents).members) (sym upto)
              (reclaimed-times v.transactions anchors.upto w.log.layout slot' a.extents c.inside.order w.heap.kept w.heap.times);
          times_long = times-long v.transactions.times v.transactions.reserved 0 ∙ w.heap.times_long;
          heap = λ key.
              ap (λ (o : Option (List KeyWrites)). writes_of (versions_once o v.transactions.versions) key) pending
              ∙ writes_of-forgotten anchors.upto v.transactions.versions key sorted
              ∙ ap (kept_after anchors.upto) (w.heap.facts key)
              ∙ ap (λ (n : ℕ). kept_after n (heap_facts w.log.reading key)) mark
              ∙ sym (heap-forgets w.log.reading m.published m.floors w.log.stands a.olds next.plan key);
          archived = w.log.archived ∙ sym (archive_mark-append 0 w.log.reading.log (ReclaimedSlot (archived_upto w.log.reading) ∷ []));
          reclaimed = mark ∙ sym (reclaim_mark-append 0 w.log.reading.log (ReclaimedSlot (archived_upto w.log.reading) ∷ []));
          runs_end = w.log.runs_end ∙ sym (ap (row_end 0) more);
        }

    long-used : t.number + 1 ≡ length behind-it.slots
    long-used =
        let added = adds header m w.log.layout w.log.reading w.log.laid w.log.stands c.profile_built w.log.built place product mine.next free-now in
        let long : length behind-it.slots ≡ length w.log.layout.slots + 1 =
        ap (λ (l : List Slot). length l) added.slots_are ∙ length-append w.log.layout.slots (slot ∷ []) in
        omega (arith, long, at.number)

    -- the floors are those that the machine has then
    floors-done : (work : JobWork) (p : Product) → IsMadeBy v.transactions.reserved work p → floors_with p m.floors ≡ (machine_done work m).floors
    floors-done (ArchiveWork run writer) (OfRun r) made = refl
    floors-done (ArchiveWork run writer) (OfAnchors a) made = absurd made
    floors-done (ArchiveWork run writer) (OfFloor only to) made = absurd made
    floors-done (Reclaim anchors source written) (OfRun r) made = absurd made
    floors-done (Reclaim anchors source written) (OfAnchors a) made = refl
    floors-done (Reclaim anchors source written) (OfFloor only to) made = absurd made
    floors-done (FloorWork scope floor floors) (OfRun r) made = absurd made
    floors-done (FloorWork scope floor floors) (OfAnchors a) made = absurd made
    floors-done (FloorWork scope floor floors) (OfFloor only to) made = λ i. raised (made.0 i) (made.1 i) m.floors
    floors-done (Grow growth) p made = absurd made

    -- the works of the store once the slot is open, where its work is done
    opened-works : (x : StoreValue) (floors : ℕ → ℕ) → floors_with product m.floors ≡ floors → IsDone x behind-it (read_with w.log.reading product)
        → AllPacked m.published x.transactions.queue m.queue → AreSound new.disk.areas
        → IsAtStage header behind-it (group_of behind-it x.transactions m) x.transactions.queue x.transactions.stage x.turn new.disk.areas
        → Works header (slot_opened x t new) (record m { floors = floors })
    opened-works x floors are done packed sound stage = record {
      log = record {
        layout = behind-it;
        reading = read_with w.log.reading product;
        laid = laid-after header m w.log.layout w.log.reading w.log.laid w.log.stands c.profile_built w.log.built place product mine.next free-now;
        stands = subst (λ (f : ℕ → ℕ). StandsFor (read_with w.log.reading product) m.published f) are
            (stands-after header m w.log.layout w.log.reading w.log.laid w.log.stands c.profile_built w.log.built place product mine.next free-now);
        built = built-after header m w.log.layout w.log.reading w.log.laid w.log.stands c.profile_built w.log.built place product mine.next free-now;
        used = long-used;
        archived = done.archived;
        reclaimed = done.reclaimed;
        runs_end = done.runs_end;
      };
      heap = record {
        kept = done.kept;
        times = done.times;
        times_long = done.times_long;
        facts = done.heap;
      };
      packed = packed;
      group = record {
        rested = new.disk.areas.status;
        rests = refl;
        at = stage;
      };
      job = tt;
      sound = sound;
    }

    done-works : t.stage ≡ slots.GateWritten → AreSound new.disk.areas → is_turning v.transactions.stage ≡ false → Keeps v m j.work (job.Turning t)
        → IsOrdered v.transactions.versions
        → IsAtStage header w.log.layout (group_of w.log.layout v.transactions m) v.transactions.queue v.transactions.stage v.turn
        (record v.disk.areas { status = w.group.rested })
        → IsSlotCall t.number t.body t.stage (Ok tt) v.disk.areas new.disk.areas → Works header (slot_opened (work_done j.work v) t new) (machine_done j.work m)
    done-works gate sound free keeps sorted stands call =
        let areas = slot-alone t.stage t.number t.body v.disk.areas new.disk.areas call in
        let opened : IsTurnAt header w.log.layout slot behind-it slots.Opened new.disk.areas =
        subst (λ (s : SlotStage). IsTurnAt header w.log.layout slot behind-it (slots.slot_stage_after s) new.disk.areas) gate (turn-leads call) in
        let kept : KeepsParts behind-it (record v.disk.areas { status = new.disk.areas.status }) =
        subst (λ (a : Areas). KeepsParts behind-it a) areas opened.new_parts in
        let added = adds header m w.log.layout w.log.reading w.log.laid w.log.stands c.profile_built w.log.built place product mine.next free-now in
        let rests : StatusRests header behind-it.slots new.disk.areas.status =
        subst (λ (ss : List Slot). StatusRests header ss new.disk.areas.status) (sym added.slots_are) opened.status in
        let stage =
        stage-behind header w.log.layout v.transactions m product v.transactions.queue v.transactions.stage v.turn
        (record v.disk.areas { status = w.group.rested }) new.disk.areas.status free rests
        (record { extents = kept.extents; runs = kept.runs }) stands in
        by-work j.work (floors-done j.work product mine.made) (done-by j.work product mine.made mine.next keeps sorted)
        (subst (λ (a : Areas). IsAtStage header behind-it (group_of behind-it v.transactions m) v.transactions.queue v.transactions.stage v.turn a) (sym areas)
        stage)
      where
        by-work : (work : JobWork) → floors_with product m.floors ≡ (machine_done work m).floors
            → IsDone (work_done work v) behind-it (read_with w.log.reading product)
            → IsAtStage header behind-it (group_of behind-it v.transactions m) v.transactions.queue v.transactions.stage v.turn new.disk.areas
            → Works header (slot_opened (work_done work v) t new) (machine_done work m)
        by-work (ArchiveWork run writer) are done stage = opened-works (work_done (ArchiveWork run writer) v) m.floors are done w.packed sound stage
        by-work (Reclaim anchors source written) are done stage =
            opened-works (work_done (Reclaim anchors source written) v) m.floors are done w.packed sound stage
        by-work (Grow growth) are done stage = opened-works (work_done (Grow growth) v) m.floors are done w.packed sound stage
        by-work (FloorWork scope floor floors) are done stage =
            let w' = opened-works (work_done (FloorWork scope floor floors) v) (raised scope floor m.floors) are done w.packed sound stage in
            record { log = w'.log; heap = w'.heap; packed = w'.packed; group = w'.group; job = w'.job; sound = w'.sound }

-- ---- the transactions once a lent slot is used

used-memory : (v : TransactionsValue) (m : Machine Value) → StandsInMemory v m → StandsInMemory (with_slot_used v) m
used-memory v m stands = memory-beside v v.pending v.usages v.reserved (v.slots + 1) (v.used + 1) m m.raising m.gate stands

used-order : (v : TransactionsValue) → v.slots < 65536 → IsInOrder v → IsInOrder (with_slot_used v)
used-order v few order = order-beside v v.opened (v.slots + 1) (v.used + 1) v.floors v.failed (omega (arith, order.room)) (omega (arith, few)) order

-- ---- the floor is raised

-- lists that agree on what ends after a floor agree on what ends after a later one
raise : (low high : ℕ) (xs ys : List (Version Value)) → low ≤ high → filter (ends_after low) xs ≡ filter (ends_after low) ys → filter (ends_after high) xs
    ≡ filter (ends_after high) ys
raise low high xs ys le same = sym (filter-later low high xs le) ∙ ap (filter (ends_after high)) same ∙ filter-later low high ys le

-- a floor that may be raised is above those in whose place it comes
not-below : (scope : Option ℕ) (floor : ℕ) (floors : ℕ → ℕ) → ((relation : ℕ) → IsTrue (covers scope relation) → floors relation < floor) → (relation : ℕ)
    → floors relation ≤ raised scope floor floors relation
not-below scope floor floors rises relation =
    elim (covers scope relation) as (λ (b : Bool). covers scope relation ≡ b → floors relation ≤ cond b floor (floors relation)) [
      | true ↦ λ is. (let above = rises relation is in omega (arith, above))
      | false ↦ λ is. omega arith
    ] refl

raises-memory : (v : TransactionsValue) (m : Machine Value) (scope : Option ℕ) (floor : ℕ) (floors : FloorsValue) → StandsInMemory v m → floors
    ≡ raised_in scope floor v.floors → ((relation : ℕ) → m.floors relation ≤ raised scope floor m.floors relation)
    → StandsInMemory (with_floors v floors) (steps.floor_published m (record { scope = scope; floor = floor }))
raises-memory v m scope floor floors stands is up = record {
  names = stands.names;
  rising = stands.rising;
  published = stands.published;
  versions = record {
    ordered = stands.versions.ordered;
    marked = stands.versions.marked;
    before = stands.versions.before;
    rising = stands.versions.rising;
    early = stands.versions.early;
    writes = stands.versions.writes;
    at_home = λ key. raise (m.floors key.relation) (raised scope floor m.floors key.relation) _ _ (up key.relation) (stands.versions.at_home key);
  };
  forgot = stands.forgot;
  recent = stands.recent;
  queue = stands.queue;
  fresh = stands.fresh;
  group = stands.group;
  most = stands.most;
  staged = stands.staged;
  snapshots = stands.snapshots;
  floors = λ relation.
      let same : floor_at v.floors ≡ m.floors = λ i other. stands.floors other i in
      ap (λ (f : FloorsValue). floor_at f relation) is ∙ raised-is v.floors scope floor relation ∙ ap (λ (f : ℕ → ℕ). raised scope floor f relation) same;
  failed = stands.failed;
}

raised-order : (v : TransactionsValue) (floors : FloorsValue) → IsInOrder v → IsInOrder (with_floors v floors)
raised-order v floors order = order-beside v v.opened v.slots v.used floors v.failed order.room order.slots_few order

-- floors that are raised are of the store's profile
of-profile-done : (v : StoreValue) (m : Machine Value) → RaisesFloor v m → (work : JobWork) → m.raising ≡ raising_by work
    → AreOfProfile v.log.profile (machine_done work m).floors
of-profile-done v m raises (ArchiveWork run writer) is = raises.of_profile
of-profile-done v m raises (Reclaim anchors source written) is = raises.of_profile
of-profile-done v m raises (Grow growth) is = raises.of_profile
of-profile-done v m raises (FloorWork None floor floors) is = λ other relation. refl
of-profile-done v m raises (FloorWork (Some only) floor floors) is = λ other relation.
    let scope : IsScopeOf v.log.profile (Some only) =
    subst (λ (o : Option Raising). MatchOption o (Unit {0}) (λ r. IsScopeOf v.log.profile r.scope)) is raises.scope in
    let test : (v.log.profile == 3) ≡ false = grind (arith, nat_tests, other) in
    absurd (let no : IsNone (Some only) = subst (λ (b : Bool). MatchBool b (IsSome (Some only)) (IsNone (Some only))) test scope in cc)

-- ---- the work that is done

-- of a store whose group's slot is not in the writing
module _ (v : StoreValue) (m : Machine Value) (memory : StandsInMemory v.transactions m) (order : IsInOrder v.transactions) (marks : HasMarks v m)
    (still : is_turning v.transactions.stage ≡ false) where
  memory-done : (work : JobWork) (t : TurnState) → m.raising ≡ raising_by work → IsMachine IsValue m → Keeps v m work (job.Turning t)
      → StandsInMemory (work_done work v).transactions (machine_done work m)
  memory-done (ArchiveWork run writer) t raises machine keeps = memory
  memory-done (FloorWork scope floor floors) t raises machine keeps =
      let may : MayRaise m (record { scope = scope; floor = floor }) =
      subst (λ (o : Option Raising). MatchOption o (Unit {0}) (MayRaise m)) raises machine.raising in
      raises-memory v.transactions m scope floor floors memory keeps (not-below scope floor m.floors may.rises)
  memory-done (Grow growth) t raises machine keeps = absurd keeps
  memory-done (Reclaim anchors source written) t raises machine keeps =
      let is = keeps.is in let low = marks.0 in let high = marks.1 in
      reclaims v.transactions m anchors.upto memory (keeps.made refl) (omega (arith, is, low)) (omega (arith, is, high)) keeps.recent still

  order-done : (work : JobWork) → IsInOrder (work_done work v).transactions
  order-done (ArchiveWork run writer) = order
  order-done (FloorWork scope floor floors) = raised-order v.transactions floors order
  order-done (Grow growth) = order
  order-done (Reclaim anchors source written) = reclaimed-order v.transactions anchors.upto order

  marks-done : (work : JobWork) (t : TurnState) → Keeps v m work (job.Turning t) → ((work_done work v).transactions.reclaimed ≤ (work_done work v).archived)
      × ((work_done work v).archived ≤ last (machine_done work m).published)
  marks-done (FloorWork scope floor floors) t keeps = marks
  marks-done (Grow growth) t keeps = absurd keeps
  marks-done (ArchiveWork run writer) t keeps = (let low = marks.0 in let up = keeps.0 in omega (arith, low, up), keeps.1)
  marks-done (Reclaim anchors source written) t keeps = (let is = keeps.is in omega (arith, is), marks.1)

  -- what it leaves of the slots, and of the group
  record LeavesSlots (x : StoreValue) : Type 0 where
    pub slots : x.transactions.slots ≡ v.transactions.slots
    pub used : x.transactions.used ≡ v.transactions.used
    pub turning : is_turning x.transactions.stage ≡ is_turning v.transactions.stage
    pub failed : x.transactions.failed ≡ v.transactions.failed
    pub turn : x.turn ≡ v.turn
    pub log : x.log ≡ v.log

  slots-done : (work : JobWork) → LeavesSlots (work_done work v)
  slots-done (FloorWork scope floor floors) = record { slots = refl; used = refl; turning = refl; failed = refl; turn = refl; log = refl }
  slots-done (Grow growth) = record { slots = refl; used = refl; turning = refl; failed = refl; turn = refl; log = refl }
  slots-done (ArchiveWork run writer) = record { slots = refl; used = refl; turning = refl; failed = refl; turn = refl; log = refl }
  slots-done (Reclaim anchors source written) = record { slots = refl; used = refl; turning = refl; failed = refl; turn = refl; log = refl }

module _ (tells : Bool) (v new : StoreValue) (m : Machine Value) (stands : Stands tells v m) (works : m.failed ≡ false) (sound : IsTrue tells
    → AreSound new.disk.areas) (j : Job) (is : v.job ≡ Some j) where
  on : v.transactions.failed ≡ false
  on = stands.memory.failed ∙ works

  kept-now : Keeps v m j.work j.stage
  kept-now = kept-so tells v new m stands works sound j is

  one : lent_to v.job ≡ 1
  one = ap lent_to is ∙ lends v m j.work j.stage kept-now

  -- the floor that it is to raise is the one in the making
  raises-now : m.raising ≡ raising_by j.work
  raises-now = stands.raises.is ∙ ap raising_of is

  -- the gate of the slot at a stage
  abbrev gate_on : SlotStage → Gate
  gate_on stage = gate_for j.work stage

  -- the slot goes on, and another call of it is to come
  goes-on : (t : TurnState) (log : LogState) → log.profile ≡ v.log.profile → log.slots ≡ v.log.slots → log.pieces ≡ v.log.pieces → log.used ≡ v.log.used
      → log.writing ≡ true → t.number ≡ v.log.used → v.turn ≡ None → IsOnItsWay (slots.slot_stage_after t.stage)
      → Keeps v m j.work (job.Turning (record t { stage = slots.slot_stage_after t.stage }))
      → ((told : IsTrue tells)
      → Works (stands.disk told).header (record v {
        log = log;
        job = Some (record j { stage = job.Turning (record t { stage = slots.slot_stage_after t.stage }) });
        disk = new.disk;
      }) m)
      → Stands tells (record v {
        log = log;
        job = Some (record j { stage = job.Turning (record t { stage = slots.slot_stage_after t.stage }) });
        disk = new.disk;
      }) (steps.gated m (gate_on (slots.slot_stage_after t.stage)))
  goes-on t log profile many pieces used writing number free way keeps works-so =
      let was = stands.in_step.turns on in
      let gate : Gate = gate_on (slots.slot_stage_after t.stage) in
      let after : Option Job = Some (record j { stage = job.Turning (record t { stage = slots.slot_stage_after t.stage }) }) in
      let in_step : IsInStep (record v {
        log = log;
        job = Some (record j { stage = job.Turning (record t { stage = slots.slot_stage_after t.stage }) });
        disk = new.disk;
      }) = record {
        slots = omega (arith, many, stands.in_step.slots, one, lends v m j.work j.stage kept-now);
        used = used ∙ stands.in_step.used;
        turns = λ _. record {
          turning = was.turning;
          writing = writing ∙ sym (ap (λ (o : Option TurnState). is_some o || true) free);
          turn = subst (λ (o : Option TurnState). MatchOption o (Unit {0}) (λ u. (u.number ≡ log.used) × IsOnItsWay u.stage)) (sym free) tt;
          job = (number ∙ sym used, way, free);
        };
      } in
      goes-on-working tells v (record v {
        log = log;
        job = Some (record j { stage = job.Turning (record t { stage = slots.slot_stage_after t.stage }) });
        disk = new.disk;
      }) m (steps.gated m gate) stands works (record {
        memory = regated v.transactions m gate stands.memory;
        machine = gated-machine m gate stands.machine;
        order = stands.order;
        in_step = in_step;
        gate = λ _. sym (ap (λ (o : Option TurnState). gate_of o after) free);
        raises = raises-so v (record v { log = log; job = after; disk = new.disk }) m (steps.gated m gate) stands.raises profile refl refl raises-now;
        marks = stands.marks;
        job = keeps;
      }) works profile many pieces (λ told. gated-works (stands.disk told).header _ m gate (works-so told))

  -- ---- the first call

  -- the answer leads to the store, and the machine's gate to the slot's next stage
  slot-moves : (stage : SlotStage) → IsOnItsWay (slots.slot_stage_after stage) → m.gate ≡ gate_on stage → (said : JobDid) → said ≡ said_at stage
      → (to : StoreValue) → new ≡ to
      → Stands tells to (steps.gated m (gate_on (slots.slot_stage_after stage))) → Ends tells m (Ok said) new
  slot-moves stage way gate said same to is parts =
      let after : Machine Value = steps.gated m (gate_on (slots.slot_stage_after stage)) in
      subst (λ (d : JobDid). Ends tells m (Ok d) new) (sym same)
      (after, gate-run m j.work stage works way raises-now gate, subst (λ (x : StoreValue). Stands tells x after) (sym is) parts)

  begin-step : j.stage ≡ job.Stored → Keeps v m j.work (job.Turning (record (first_turn v j) { stage = slots.BodyWritten })) → v.turn ≡ None
      → (answer : Result JobDid PumpFault) → TurnsJob tells j (first_turn v j) (slot_taken v) answer new → Ends tells m answer new
  begin-step stored keeps free (Ok said) takes =
      let log : LogState = record v.log { writing = true } in
      let shut : m.gate ≡ gate_on slots.Begun =
      stands.gate works ∙ ap (λ (o : Option TurnState). gate_of o v.job) free ∙ ap job_gate is ∙ ap (gate_in j.work) stored ∙ sym (begun-shut j.work) in
      slot-moves slots.Begun tt shut said takes.answer.0 (record v {
        log = log;
        job = Some (record j { stage = job.Turning (record (first_turn v j) { stage = slots.BodyWritten }) });
        disk = new.disk;
      }) takes.answer.1
      (goes-on (first_turn v j) log refl refl refl refl refl refl free tt keeps (λ told.
      let c = working tells v m stands works told in
      let w = c.works in
      let none : turn_of v.job ≡ None = ap turn_of is ∙ ap turn_in stored in
      let at = begun v new m c j is stored on free in
      turning-works v new m c j is (first_turn v j) at log refl (sound told) v.disk.areas.status at.at.status (w.sound Status) (now-at v m c none)
      (takes.call.areas told)))
  begin-step stored keeps free (Err why) takes =
      fails tells v new m why (record v.log { writing = true }) (record j { stage = job.Stored }) stands works takes.answer.0 refl refl refl refl
      (ap lent_to is) raises-now (subst (λ (s : JobStage). Keeps v m j.work s) stored kept-now) takes.answer.1 (λ told image left.
      let c = working tells v m stands works told in
      let w = c.works in
      let at = begun v new m c j is stored on free in
      turn-leaves v new m c j is (first_turn v j) at (job_gate_left m.gate) (λ no. absurd no) (takes.call.areas told) image left)

  -- ---- the others

  module _ (t : TurnState) (turning : j.stage ≡ job.Turning t) where
    was-turning : MatchOption (Some t) (Unit {0}) (λ u. (u.number ≡ v.log.used) × IsOnItsWay u.stage × (v.turn ≡ None))
    was-turning =
        subst (λ (o : Option TurnState). MatchOption o (Unit {0}) (λ u. (u.number ≡ v.log.used) × IsOnItsWay u.stage × (v.turn ≡ None))) (ap turn_of is
        ∙ ap turn_in turning) (stands.in_step.turns on).job

    keeps-turning : Keeps v m j.work (job.Turning t)
    keeps-turning = subst (λ (s : JobStage). Keeps v m j.work s) turning kept-now

    -- at whatever stage of the slot
    any-turn : (work : JobWork) (u : TurnState) → Keeps v m work (job.Turning t) → Keeps v m work (job.Turning u)
    any-turn (ArchiveWork run writer) u keeps = keeps
    any-turn (Reclaim anchors source written) u keeps = keeps
    any-turn (FloorWork scope floor floors) u keeps = keeps
    any-turn (Grow growth) u keeps = absurd keeps

    no-turn : (work : JobWork) → Keeps v m work (job.Turning t) → Keeps v m work job.Stored
    no-turn (ArchiveWork run writer) keeps = keeps
    no-turn (FloorWork scope floor floors) keeps = keeps
    no-turn (Grow growth) keeps = absurd keeps
    no-turn (Reclaim anchors source written) keeps = record { is = keeps.is; recent = keeps.recent; made = λ no. absurd cc }

    at-turn : (told : IsTrue tells)
        → IsTurnFor (stands.disk told).header ((stands.disk told).works works).log.layout
        (own (stands.disk told).header v m ((stands.disk told).works works) j is).product t v.disk.areas
    at-turn told =
        let c = working tells v m stands works told in
        let has = own c.header v m c.works j is in
        subst (λ (s : JobStage). IsAtJob c.header c.works.log.layout j.work has.product s v.disk.areas) turning has.at

    at-rest : (told : IsTrue tells)
        → StatusRests (stands.disk told).header ((stands.disk told).works works).log.layout.slots ((stands.disk told).works works).group.rested
        × IsSound ((stands.disk told).works works).group.rested
    at-rest told =
        let c = working tells v m stands works told in
        let w = c.works in
        subst (λ (o : Option TurnState). IsRested c.header w.log.layout o w.group.rested v.disk.areas.status) (ap turn_of is ∙ ap turn_in turning) w.group.rests

    log-writes : v.log.writing ≡ true
    log-writes =
        (stands.in_step.turns on).writing ∙ ap (λ (o : Option TurnState). is_some o || is_some (turn_of v.job)) was-turning.2
        ∙ ap (λ (o : Option TurnState). is_some o) (ap turn_of is ∙ ap turn_in turning)

    -- the machine's gate is the slot's
    gate-now : m.gate ≡ gate_on t.stage
    gate-now = gate-in-turn v m j t stands.gate works was-turning.2 is turning

    next-step : (stage : SlotStage) → t.stage ≡ stage → IsOnItsWay (slots.slot_stage_after stage) → (said : JobDid) → said ≡ said_at stage
        → (call : (told : IsTrue tells) → IsSlotCall t.number t.body t.stage (Ok tt) v.disk.areas new.disk.areas)
        → new ≡ with_job v (record j { stage = job.Turning (record t { stage = slots.slot_stage_after stage }) }) new → Ends tells m (Ok said) new
    next-step stage at way said named call to =
        let same : with_job v (record j { stage = job.Turning (record t { stage = slots.slot_stage_after stage }) }) new
        ≡ with_job v (record j { stage = job.Turning (record t { stage = slots.slot_stage_after t.stage }) }) new =
        ap (λ (s : SlotStage). with_job v (record j { stage = job.Turning (record t { stage = slots.slot_stage_after s }) }) new) (sym at) in
        slot-moves t.stage (subst (λ (s : SlotStage). IsOnItsWay (slots.slot_stage_after s)) (sym at) way) gate-now said (named ∙ ap said_at (sym at))
        (with_job v (record j { stage = job.Turning (record t { stage = slots.slot_stage_after t.stage }) }) new) (to ∙ same)
        (goes-on t v.log refl refl refl refl log-writes was-turning.0 was-turning.2
        (subst (λ (s : SlotStage). IsOnItsWay (slots.slot_stage_after s)) (sym at) way)
        (any-turn j.work (record t { stage = slots.slot_stage_after t.stage }) keeps-turning) (λ told.
        let c = working tells v m stands works told in
        let w = c.works in
        let rest = at-rest told in
        turning-works v new m c j is t (at-turn told) v.log refl (sound told) w.group.rested rest.0 rest.1 w.group.at (call told)))

    last-step : t.stage ≡ slots.GateWritten → (said : JobDid) → said ≡ did.JobDone
        → ((told : IsTrue tells) → IsSlotCall t.number t.body t.stage (Ok tt) v.disk.areas new.disk.areas) → v.transactions.slots < 65536 → new
        ≡ job_done v j t new → Ends tells m (Ok said) new
    last-step gate said named call few to =
        let was = stands.in_step.turns on in
        let free : v.turn ≡ None = was-turning.2 in
        let still : is_turning v.transactions.stage ≡ false = was.turning ∙ ap (λ (o : Option TurnState). is_some o) free in
        let x : StoreValue = work_done j.work v in
        let leaves = slots-done v m stands.memory stands.order stands.marks still j.work in
        let after : Machine Value = machine_done j.work m in
        let run = done-run m j.work works raises-now (gate-now ∙ ap gate_on gate) in
        let memory =
        used-memory x.transactions after (memory-done v m stands.memory stands.order stands.marks still j.work t raises-now stands.machine keeps-turning) in
        let order = used-order x.transactions (omega (arith, few, leaves.slots)) (order-done v m stands.memory stands.order stands.marks still j.work) in
        let no-turn-of : (o : Option TurnState) → o ≡ None → MatchOption o (Unit {0}) (λ u. (u.number ≡ t.number + 1) × IsOnItsWay u.stage) =
        λ o none. subst (λ (y : Option TurnState). MatchOption y (Unit {0}) (λ u. (u.number ≡ t.number + 1) × IsOnItsWay u.stage)) (sym none) tt in
        let in_step : IsInStep (job_done v j t new) = record {
          slots = ap (λ (l : LogState). l.slots) leaves.log ∙ omega (arith, stands.in_step.slots, one, leaves.slots);
          used = omega (arith, was-turning.0, stands.in_step.used, leaves.used);
          turns = λ _. record {
            turning = leaves.turning ∙ was.turning ∙ sym (ap (λ (o : Option TurnState). is_some o) leaves.turn);
            writing = sym (ap (λ (o : Option TurnState). is_some o || false) (leaves.turn ∙ free));
            turn = no-turn-of x.turn (leaves.turn ∙ free);
            job = tt;
          };
        } in
        let ends = goes-on-working tells v (job_done v j t new) m after stands works (record {
          memory = memory;
          machine = run-machine IsValue m after (floor_ends did.JobDone m.raising) stands.machine run;
          order = order;
          in_step = in_step;
          gate = λ _. done-shut m j.work (gate-now ∙ ap gate_on gate) ∙ sym (ap (λ (o : Option TurnState). gate_of o None) (leaves.turn ∙ free));
          raises = record {
            is = done-raised m j.work raises-now;
            scope = subst (λ (o : Option Raising). MatchOption o (Unit {0}) (λ r. IsScopeOf (job_done v j t new).log.profile r.scope))
                (sym (done-raised m j.work raises-now)) tt;
            of_profile =
                subst (λ (n : ℕ). AreOfProfile n after.floors) (sym (ap (λ (l : LogState). l.profile) leaves.log))
                (of-profile-done v m stands.raises j.work raises-now);
          };
          marks = marks-done v m stands.memory stands.order stands.marks still j.work t keeps-turning;
          job = tt;
        }) (done-failed m j.work
        ∙ works) (ap (λ (l : LogState). l.profile) leaves.log) (ap (λ (l : LogState). l.slots) leaves.log) (ap (λ (l : LogState). l.pieces) leaves.log)
        (λ told.
        let c = working tells v m stands works told in
        done-works v new m c j is t (at-turn told) gate (sound told) still keeps-turning stands.memory.versions.ordered c.works.group.at (call told)) in
        subst (λ (d : JobDid). Ends tells m (Ok d) new) (sym named) (after, run, subst (λ (y : StoreValue). Stands tells y after) (sym to) ends)

    turned : (stage : SlotStage) → t.stage ≡ stage → ((told : IsTrue tells) → IsSlotCall t.number t.body t.stage (Ok tt) v.disk.areas new.disk.areas)
        → (said : JobDid) → IsJobTurned stage t j v said new → Ends tells m (Ok said) new
    turned slots.Begun at call said to = next-step slots.Begun at tt said to.0 call to.1
    turned slots.BodyWritten at call said to = next-step slots.BodyWritten at tt said to.0 call to.1
    turned slots.BodySynced at call said to = next-step slots.BodySynced at tt said to.0 call to.1
    turned slots.GateWritten at call said to = last-step at said to.0 call to.1 to.2
    turned slots.Opened at call said to = absurd to

    turn-step : (answer : Result JobDid PumpFault) → TurnsJob tells j t v answer new → Ends tells m answer new
    turn-step (Ok said) takes = turned t.stage refl takes.call.areas said takes.answer
    turn-step (Err why) takes =
        fails tells v new m why v.log (record j { stage = job.Stored }) stands works takes.answer.0 refl refl refl refl (ap lent_to is) raises-now
        (no-turn j.work keeps-turning) takes.answer.1 (λ told image left.
        let c = working tells v m stands works told in
        let has = own c.header v m c.works j is in
        turn-leaves v new m c j is t (at-turn told) (job_gate_left m.gate)
        (λ may. may-stand (steps.gated m (job_gate_left m.gate)) v.transactions.reserved j.work has.product has.made raises-now
        (λ scope floor floors of. ap job_gate_left (gate-now ∙ ap (λ (work : JobWork). gate_for work t.stage) of) ∙ job-left-is t.stage may))
        (takes.call.areas told) image left)

-- ---- what is made in memory before the slot is begun

prepared-order : (v : TransactionsValue) (mark : ℕ) → IsInOrder v → IsInOrder (prepared v mark)
prepared-order v mark order = record {
  split = order.split;
  pending = (let upto = order.latest.0 in omega (arith, upto, latest-forgotten mark v.versions));
  latest = order.latest;
  group_within = order.group_within;
  group_few = order.group_few;
  stage_fits = order.stage_fits;
  stored = order.stored;
  out = order.out;
  room = order.room;
  slots_few = order.slots_few;
}

prepared-works : (header : Header) (v : StoreValue) (m : Machine Value) (mark : ℕ) → Works header v m
    → Works header (record v { transactions = prepared v.transactions mark }) m
prepared-works header v m mark w = record {
  log = w.log;
  heap = w.heap;
  packed = w.packed;
  group = w.group;
  job = w.job;
  sound = w.sound;
}

prepared-parts : (tells : Bool) (v : StoreValue) (m : Machine Value) (anchors : Anchors) (source : Sourced) (written : ℕ) → v.job
    ≡ Some (record { work = Reclaim anchors source written; stage = job.Stored }) → (stands : Stands tells v m) → (works : m.failed ≡ false)
    → Stands tells (record v { transactions = prepared v.transactions anchors.upto }) m
prepared-parts tells v m anchors source written is stands works =
    let after : StoreValue = record v { transactions = prepared v.transactions anchors.upto } in
    let keeps : Keeps v m (Reclaim anchors source written) job.Stored =
    subst (λ (o : Option Job). KeepsJobOf o v.archived (last m.published) v.transactions.opened v.transactions.pending v.transactions.versions
    v.transactions.floors) is stands.job in
    let keeps' : Reclaims v.archived anchors.upto false v.transactions.opened (Some (forgotten anchors.upto v.transactions.versions)) v.transactions.versions =
    record { is = keeps.is; recent = keeps.recent; made = λ no. absurd cc } in
    let in_step : IsInStep (record v { transactions = prepared v.transactions anchors.upto }) = record {
      slots = stands.in_step.slots;
      used = stands.in_step.used;
      turns = λ on. let was = stands.in_step.turns on in record { turning = was.turning; writing = was.writing; turn = was.turn; job = was.job };
    } in
    goes-on-working tells v after m m stands works (record {
      memory = prepares v.transactions m anchors.upto stands.memory;
      machine = stands.machine;
      order = prepared-order v.transactions anchors.upto stands.order;
      in_step = in_step;
      gate = stands.gate;
      raises = stands.raises;
      marks = stands.marks;
      job = subst (λ (o : Option Job). KeepsJobOf o v.archived (last m.published) v.transactions.opened (Some (forgotten anchors.upto v.transactions.versions))
          v.transactions.versions v.transactions.floors) (sym is) keeps';
    }) works refl refl refl (λ told. let c = working tells v m stands works told in prepared-works c.header v m anchors.upto c.works)

-- ---- every step

module _ (tells : Bool) (v new : StoreValue) (m : Machine Value) (stands : Stands tells v m) (works : m.failed ≡ false) (sound : IsTrue tells
    → AreSound new.disk.areas) where
  begins-slot : (work : JobWork) → v.job ≡ Some (record { work = work; stage = job.Stored }) → v.turn ≡ None → (answer : Result JobDid PumpFault)
      → BeginsJobSlot tells (record { work = work; stage = job.Stored }) v answer new → Ends tells m answer new
  begins-slot (ArchiveWork run writer) is free answer (inl short) = absurd short.0
  begins-slot (ArchiveWork run writer) is free answer (inr first) =
      begin-step tells v new m stands works sound (record {
        work = ArchiveWork run writer;
        stage = job.Stored;
      }) is refl (kept-so tells v new m stands works sound (record { work = ArchiveWork run writer; stage = job.Stored }) is) free answer
      first
  begins-slot (FloorWork scope floor floors) is free answer (inl short) = absurd short.0
  begins-slot (FloorWork scope floor floors) is free answer (inr first) =
      begin-step tells v new m stands works sound (record {
        work = FloorWork scope floor floors;
        stage = job.Stored;
      }) is refl (kept-so tells v new m stands works sound (record { work = FloorWork scope floor floors; stage = job.Stored }) is) free
      answer first
  begins-slot (Grow growth) is free answer begins = absurd (kept-so tells v new m stands works sound (record { work = Grow growth; stage = job.Stored }) is)
  begins-slot (Reclaim anchors source written) is free answer (inl short) =
      subst (λ (r : Result JobDid PumpFault). Ends tells m r new) (sym short.1) (m, refl, subst (λ (x : StoreValue). Stands tells x m) (sym short.2) stands)
  begins-slot (Reclaim anchors source written) is free answer (inr first) =
      let ready : StoreValue = record v { transactions = prepared v.transactions anchors.upto } in
      let then = prepared-parts tells v m anchors source written is stands works in
      let keeps = kept-so tells v new m stands works sound (record { work = Reclaim anchors source written; stage = job.Stored }) is in
      begin-step tells (record v { transactions = prepared v.transactions anchors.upto }) new m then works sound
      (record { work = Reclaim anchors source written; stage = job.Stored }) is refl
      (record { is = keeps.is; recent = keeps.recent; made = λ _. refl }) free answer first

  waits-or-begins : (work : JobWork) → v.job ≡ Some (record { work = work; stage = job.Stored }) → (o : Option TurnState) → v.turn ≡ o
      → (answer : Result JobDid PumpFault)
      → MatchBool (is_some o) ((answer ≡ Err pump.Busy) × (new ≡ v)) (BeginsJobSlot tells (record { work = work; stage = job.Stored }) v answer new)
      → Ends tells m answer new
  waits-or-begins work is (Some t) at answer busy =
      subst (λ (r : Result JobDid PumpFault). Ends tells m r new) (sym busy.0) (m, refl, subst (λ (x : StoreValue). Stands tells x m) (sym busy.1) stands)
  waits-or-begins work is None free answer begins = begins-slot work is free answer begins

  write-step : (work : JobWork) → v.job ≡ Some (record { work = work; stage = job.Writing }) → (answer : Result JobDid PumpFault)
      → Stores tells work (record { work = work; stage = job.Writing }) v answer new → Ends tells m answer new
  write-step (FloorWork scope floor floors) is answer takes = absurd takes
  write-step (Grow growth) is answer takes = absurd (kept-so tells v new m stands works sound (record { work = Grow growth; stage = job.Writing }) is)
  write-step (ArchiveWork run writer) is answer takes = run-step tells v new m stands works sound run writer is writer.left refl answer takes
  write-step (Reclaim anchors source written) is answer takes =
      anchors-step tells v new m stands works sound anchors source written is (slice_get v.transactions.reserved written) refl answer takes

  job-step : (work : JobWork) (s : JobStage) → v.job ≡ Some (record { work = work; stage = s }) → (answer : Result JobDid PumpFault)
      → TakesJobStep tells s (record { work = work; stage = s }) v answer new → Ends tells m answer new
  job-step work job.Writing is answer takes = write-step work is answer takes
  job-step work job.Stored is answer takes = waits-or-begins work is v.turn refl answer takes
  job-step work (job.Turning t) is answer takes =
      turn-step tells v new m stands works sound (record { work = work; stage = job.Turning t }) is t refl answer takes

  step : (o : Option Job) → v.job ≡ o → (answer : Result JobDid PumpFault)
      → MatchOption o ((answer ≡ Ok did.Idle) × (new ≡ v)) (λ j. TakesJobStep tells j.stage j v answer new) → Ends tells m answer new
  step None is answer idle =
      subst (λ (r : Result JobDid PumpFault). Ends tells m r new) (sym idle.0) (
        m,
        by-floor m m did.Idle None (stands.raises.is ∙ ap raising_of is) refl,
        subst (λ (x : StoreValue). Stands tells x m) (sym idle.1) stands,
      )
  step (Some j) is answer takes = job-step j.work j.stage is answer takes

pub job-pump-stands : (tells : Bool) (old new : StoreValue) (answer : Result JobDid PumpFault) (m : Machine Value) → Stands tells old m
    → (IsTrue tells → AreSound new.disk.areas) → PumpsJob tells old answer new
    → MatchBool m.failed ((answer ≡ Err pump.Failed) × Stands tells new m) ((after : Machine Value) × steps.Run IsValue m (job_ends_in m answer) after
    × Stands tells new after)
job-pump-stands tells old new answer m stands sound pumps =
    by-failure m.failed refl
    (subst (λ (b : Bool). MatchBool b ((answer ≡ Err pump.Failed)
    × (new ≡ old)) (MatchOption old.job ((answer ≡ Ok did.Idle) × (new ≡ old)) (λ j. TakesJobStep tells j.stage j old answer new))) stands.memory.failed
    pumps)
  where
    by-failure : (b : Bool) → m.failed ≡ b
        → MatchBool b ((answer ≡ Err pump.Failed)
        × (new ≡ old)) (MatchOption old.job ((answer ≡ Ok did.Idle) × (new ≡ old)) (λ j. TakesJobStep tells j.stage j old answer new))
        → MatchBool b ((answer ≡ Err pump.Failed) × Stands tells new m) ((after : Machine Value) × steps.Run IsValue m (job_ends_in m answer) after
        × Stands tells new after)
    by-failure true failed is = (is.0, subst (λ (x : StoreValue). Stands tells x m) (sym is.1) stands)
    by-failure false works takes =
        step tells old new m stands works sound old.job refl answer takes
