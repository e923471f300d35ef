-- The device call of a step of a store whose log is slots.
use Rattle.std.specs.Prelude.{ℕ, ◌≡◌, Bool, true, false, List, ◌∷◌, is_some, nat_lt, slice_get, if◌then◌else◌, [], Option, None, Some, Result, Ok, Err}
use Rattle.std.specs.Prelude.{MatchBool, MatchOption}
use Rattle.std.proofs.Common.{ap, subst, refl, inl, inr}
use Rattle.disk.specs.Areas.{Areas}
use Rattle.disk.specs.Calls.{DiskState, Syncs}
use Rattle.disk.specs.declared.area.Area.{Area}
use Rattle.disk.specs.declared.area.Area.TheVariants.{Status, Heap, Archive}
use Rattle.group.specs.declared.answers.Did.{Did}
use Rattle.group.specs.declared.answers.Did.TheVariants as did
use Rattle.group.specs.declared.answers.PumpFault.{PumpFault}
use Rattle.group.specs.declared.answers.PumpFault.TheVariants as fault
use Rattle.group.specs.declared.queued.StoredExtent.{StoredExtent}
use Rattle.group.specs.declared.stage.NextStep.{NextStep}
use Rattle.group.specs.declared.stage.NextStep.TheVariants as step
use Rattle.group.specs.Steps.{next_step, next_extent}
use Rattle.status.specs.SlotCalls.{SlotStage}
use Rattle.status.specs.SlotCalls as slots
use Rattle.status.specs.TurnState.{TurnState}
use Rattle.status.specs.Growth.{WritesZeros, IsGrowthCall, grew_at}
use Rattle.status.specs.GrowthState.{GrowthState}
use Rattle.status.specs.declared.growth.Grew.TheVariants as grew
use Rattle.status.specs.declared.growth.GrowthStage.{GrowthStage}
use Rattle.status.specs.declared.growth.GrowthStage.TheVariants as growth
use Rattle.store.specs.Jobs.{PumpsJob, TakesJobStep, Stores, WritesOrSyncs, AnchorsOrSync, HasGrown, made_ready, BeginsJobSlot, TurnsJob, IsJobTurned}
use Rattle.store.specs.Pumps.{Pumps, TakesStep, WritesExtent, MayBeginSlot, TurnsSlot, IsTurned, started}
use Rattle.store.specs.Values.{StoreValue, turn_of}
use Rattle.store.specs.declared.job.Job.{Job}
use Rattle.store.specs.declared.job.JobDid.{JobDid}
use Rattle.store.specs.declared.job.JobDid.TheVariants as job
use Rattle.store.specs.declared.job.JobStage.{JobStage}
use Rattle.store.specs.declared.job.JobStage.TheVariants as stages
use Rattle.store.specs.declared.job.JobWork.{JobWork}
use Rattle.store.specs.declared.job.JobWork.TheVariants as works
use Rattle.any_store.specs.Steps.{slots_did, slots_job_did}
use Rattle.c_engine.specs.Steps.{group_call, job_call}
use Rattle.c_engine.proofs.Leading.{LeadsBy, by-write, by-sync, of-did, of-job-did}

-- what a step did, by either name
of-slots-did : (log : Area) (before after : Areas) (what other : Did) → what ≡ other → LeadsBy before (group_call log (slots_did other)) after
    → LeadsBy before (group_call log (slots_did what)) after
of-slots-did log before after what other same leads = of-did log before after (slots_did what) (slots_did other) (ap slots_did same) leads

of-slots-job-did : (log : Area) (before after : Areas) (what other : JobDid) → what ≡ other → LeadsBy before (job_call log (slots_job_did other)) after
    → LeadsBy before (job_call log (slots_job_did what)) after
of-slots-job-did log before after what other same leads =
    of-job-did log before after (slots_job_did what) (slots_job_did other) (ap slots_job_did same) leads

-- ---- a group

turn-leads : (stage : SlotStage) (turn : TurnState) (old new : StoreValue) (what : Did)
    → slots.IsSlotCall turn.number turn.body stage (Ok tt) old.disk.areas new.disk.areas → IsTurned stage turn old what new
    → LeadsBy old.disk.areas (group_call Status (slots_did what)) new.disk.areas
turn-leads slots.Begun turn old new what call is = of-slots-did Status _ _ what did.BodyWritten is.0 (by-write Status _ _ _ _ call)
turn-leads slots.BodyWritten turn old new what call is = of-slots-did Status _ _ what did.BodySynced is.0 (by-sync Status _ _ call)
turn-leads slots.BodySynced turn old new what call is = of-slots-did Status _ _ what did.GateWritten is.0 (by-write Status _ _ _ _ call)
turn-leads slots.GateWritten turn old new what call is = of-slots-did Status _ _ what (did.Published old.transactions.group) is.0 (by-sync Status _ _ call)
turn-leads slots.Opened turn old new what call is = absurd is

turns-lead : (turn : TurnState) (old new : StoreValue) (what : Did) → TurnsSlot true turn old (Ok what) new
    → LeadsBy old.disk.areas (group_call Status (slots_did what)) new.disk.areas
turns-lead turn old new what turns = turn-leads turn.stage turn old new what (turns.call.areas refl) turns.answer

step-leads : (next : NextStep) (old new : StoreValue) (what : Did) → TakesStep true next old (Ok what) new
    → LeadsBy old.disk.areas (group_call Status (slots_did what)) new.disk.areas
step-leads step.Idle old new what takes = let same : what ≡ did.Idle =
    (let e = takes.0 in cc) in of-slots-did Status _ _ what did.Idle same (ap (λ (v : StoreValue). v.disk.areas) takes.1)
step-leads step.WriteExtent old new what takes = by-extent (next_extent old.transactions) takes
  where
    by-extent : (o : Option StoredExtent) → MatchOption o ⊥ (λ stored. WritesExtent true stored old (Ok what) new)
        → LeadsBy old.disk.areas (group_call Status (slots_did what)) new.disk.areas
    by-extent None never = absurd never
    by-extent (Some stored) writes = of-slots-did Status _ _ what did.WroteExtent writes.steps.answer.0 (by-write Heap _ _ _ _ (writes.call.areas refl))
step-leads step.SyncHeap old new what takes = of-slots-did Status _ _ what did.HeapSynced takes.steps.answer.0 (by-sync Heap _ _ (takes.call.areas refl))
step-leads step.BeginSlot old new what takes = by-job (is_some (turn_of old.job)) takes
  where
    by-job : (b : Bool) → MatchBool b ((Ok what ≡ Err fault.Busy) × (new ≡ old)) (MayBeginSlot true old (Ok what) new)
        → LeadsBy old.disk.areas (group_call Status (slots_did what)) new.disk.areas
    by-job true busy = absurd (let e = busy.0 in cc)
    by-job false (inl none) = absurd (let e = none.1 in cc)
    by-job false (inr begins) = turns-lead _ _ new what begins.turns
step-leads step.AdvanceSlot old new what takes = by-turn old.turn takes
  where
    by-turn : (o : Option TurnState) → MatchOption o ⊥ (λ turn. TurnsSlot true turn old (Ok what) new)
        → LeadsBy old.disk.areas (group_call Status (slots_did what)) new.disk.areas
    by-turn None never = absurd never
    by-turn (Some turn) turns = turns-lead turn old new what turns

pub slot-pump-leads : (old new : StoreValue) (what : Did) → Pumps true old (Ok what) new
    → LeadsBy old.disk.areas (group_call Status (slots_did what)) new.disk.areas
slot-pump-leads old new what pumps = by-failed old.transactions.failed pumps
  where
    by-failed : (b : Bool) → MatchBool b ((Ok what ≡ Err fault.Failed) × (new ≡ old))
        (TakesStep true (next_step old.transactions) (started old) (Ok what) new) → LeadsBy old.disk.areas (group_call Status (slots_did what)) new.disk.areas
    by-failed true fails = absurd (let e = fails.0 in cc)
    by-failed false takes = step-leads (next_step old.transactions) (started old) new what takes

-- ---- a job

job-turn-leads : (stage : SlotStage) (turn : TurnState) (j : Job) (old new : StoreValue) (what : JobDid)
    → slots.IsSlotCall turn.number turn.body stage (Ok tt) old.disk.areas new.disk.areas → IsJobTurned stage turn j old what new
    → LeadsBy old.disk.areas (job_call Status (slots_job_did what)) new.disk.areas
job-turn-leads slots.Begun turn j old new what call is = of-slots-job-did Status _ _ what job.BodyWritten is.0 (by-write Status _ _ _ _ call)
job-turn-leads slots.BodyWritten turn j old new what call is = of-slots-job-did Status _ _ what job.BodySynced is.0 (by-sync Status _ _ call)
job-turn-leads slots.BodySynced turn j old new what call is = of-slots-job-did Status _ _ what job.GateWritten is.0 (by-write Status _ _ _ _ call)
job-turn-leads slots.GateWritten turn j old new what call is = of-slots-job-did Status _ _ what job.JobDone is.0 (by-sync Status _ _ call)
job-turn-leads slots.Opened turn j old new what call is = absurd is

job-turns-lead : (j : Job) (turn : TurnState) (old new : StoreValue) (what : JobDid) → TurnsJob true j turn old (Ok what) new
    → LeadsBy old.disk.areas (job_call Status (slots_job_did what)) new.disk.areas
job-turns-lead j turn old new what turns = job-turn-leads turn.stage turn j old new what (turns.call.areas refl) turns.answer

zeros-lead : (b : Bool) (slots_are parts : ℕ) (g : GrowthState) (old new : StoreValue) (what : JobDid)
    → MatchBool b (WritesZeros slots_are parts (Ok tt) old.disk.areas new.disk.areas) (Syncs Status (Ok tt) old.disk.areas new.disk.areas)
    → HasGrown (if b then grew.WroteZeros else grew.ZerosSynced) g old what new
    → LeadsBy old.disk.areas (job_call Status (slots_job_did what)) new.disk.areas
zeros-lead true slots_are parts g old new what call is = of-slots-job-did Status _ _ what job.WroteZeros is.0 (by-write Status _ _ _ _ call)
zeros-lead false slots_are parts g old new what call is = of-slots-job-did Status _ _ what job.ZerosSynced is.0 (by-sync Status _ _ call)

growth-leads : (stage : GrowthStage) (g : GrowthState) (old new : StoreValue) (what : JobDid)
    → IsGrowthCall stage g.slots g.piece (Ok tt) old.disk.areas new.disk.areas
    → HasGrown (grew_at stage) g old what new → LeadsBy old.disk.areas (job_call Status (slots_job_did what)) new.disk.areas
growth-leads (growth.Zeroing parts) g old new what call is = zeros-lead (nat_lt parts 16) g.slots parts g old new what call is
growth-leads growth.ZerosSynced g old new what call is = of-slots-job-did Status _ _ what job.GateWritten is.0 (by-write Status _ _ _ _ call)
growth-leads growth.GateWritten g old new what call is = of-slots-job-did Status _ _ what job.JobDone is.0 (by-sync Status _ _ call)

run-leads : (left : List ℕ) (run : _) (writer : _) (j : Job) (old new : StoreValue) (what : JobDid) → WritesOrSyncs true left run writer j old (Ok what) new
    → LeadsBy old.disk.areas (job_call Status (slots_job_did what)) new.disk.areas
run-leads [] run writer j old new what syncs = of-slots-job-did Status _ _ what job.RunSynced syncs.moves.0 (by-sync Archive _ _ (syncs.call.areas refl))
run-leads (b ∷ bs) run writer j old new what writes =
    of-slots-job-did Status _ _ what job.WroteRun writes.moves.0 (by-write Archive _ _ _ _ (writes.call.areas refl))

anchors-lead : (next : Option ℕ) (anchors : _) (source : _) (count : ℕ) (j : Job) (old new : StoreValue) (what : JobDid)
    → AnchorsOrSync true next anchors source count j old (Ok what) new → LeadsBy old.disk.areas (job_call Status (slots_job_did what)) new.disk.areas
anchors-lead None anchors source count j old new what syncs =
    of-slots-job-did Status _ _ what job.HeapSynced syncs.moves.0 (by-sync Heap _ _ (syncs.call.areas refl))
anchors-lead (Some number) anchors source count j old new what writes =
    of-slots-job-did Status _ _ what job.WroteExtent writes.moves.0 (by-write Heap _ _ _ _ (writes.call.areas refl))

work-leads : (work : JobWork) (j : Job) (old new : StoreValue) (what : JobDid) → Stores true work j old (Ok what) new
    → LeadsBy old.disk.areas (job_call Status (slots_job_did what)) new.disk.areas
work-leads (works.Archive run writer) j old new what stores = run-leads writer.left run writer j old new what stores
work-leads (works.Reclaim anchors source count) j old new what stores =
    anchors-lead (slice_get old.transactions.reserved count) anchors source count j old new what stores
work-leads (works.Floor scope floor floors) j old new what stores = absurd stores
work-leads (works.Grow g) j old new what grows = growth-leads g.stage g old new what (grows.call.areas refl) grows.answer

disk-ready : (work : JobWork) (v : StoreValue) → (made_ready work v).disk ≡ v.disk
disk-ready (works.Archive run writer) v = refl
disk-ready (works.Reclaim anchors source count) v = refl
disk-ready (works.Floor scope floor floors) v = refl
disk-ready (works.Grow g) v = refl

slot-begins : (j : Job) (old new : StoreValue) (what : JobDid) → BeginsJobSlot true j old (Ok what) new
    → LeadsBy old.disk.areas (job_call Status (slots_job_did what)) new.disk.areas
slot-begins j old new what (inl none) = absurd (let e = none.1 in cc)
slot-begins j old new what (inr turns) =
    subst (λ (d : DiskState). LeadsBy d.areas (job_call Status (slots_job_did what)) new.disk.areas) (disk-ready j.work old)
    (job-turns-lead _ _ _ new what turns)

job-stage-leads : (stage : JobStage) (j : Job) (old new : StoreValue) (what : JobDid) → TakesJobStep true stage j old (Ok what) new
    → LeadsBy old.disk.areas (job_call Status (slots_job_did what)) new.disk.areas
job-stage-leads stages.Writing j old new what takes = work-leads j.work j old new what takes
job-stage-leads stages.Stored j old new what takes = by-turn (is_some old.turn) takes
  where
    by-turn : (b : Bool) → MatchBool b ((Ok what ≡ Err fault.Busy) × (new ≡ old)) (BeginsJobSlot true j old (Ok what) new)
        → LeadsBy old.disk.areas (job_call Status (slots_job_did what)) new.disk.areas
    by-turn true busy = absurd (let e = busy.0 in cc)
    by-turn false begins = slot-begins j old new what begins
job-stage-leads (stages.Turning turn) j old new what takes = job-turns-lead j turn old new what takes

abbrev job_said : JobDid → Result JobDid PumpFault
job_said what = Ok what

pub slot-job-leads : (old new : StoreValue) (what : JobDid) → PumpsJob true old (Ok what) new
    → LeadsBy old.disk.areas (job_call Status (slots_job_did what)) new.disk.areas
slot-job-leads old new what pumps = by-failed old.transactions.failed pumps
  where
    by-job : (o : Option Job) → MatchOption o ((job_said what ≡ job_said job.Idle) × (new ≡ old)) (λ j. TakesJobStep true j.stage j old (Ok what) new)
        → LeadsBy old.disk.areas (job_call Status (slots_job_did what)) new.disk.areas
    by-job None idle =
        let same : what ≡ job.Idle = (let e = idle.0 in cc) in
        of-slots-job-did Status _ _ what job.Idle same (ap (λ (v : StoreValue). v.disk.areas) idle.1)
    by-job (Some j) takes = job-stage-leads j.stage j old new what takes

    by-failed : (b : Bool) → MatchBool b ((Ok what ≡ Err fault.Failed) × (new ≡ old))
        (MatchOption old.job ((job_said what ≡ job_said job.Idle) × (new ≡ old)) (λ j. TakesJobStep true j.stage j old (Ok what) new))
        → LeadsBy old.disk.areas (job_call Status (slots_job_did what)) new.disk.areas
    by-failed true fails = absurd (let e = fails.0 in cc)
    by-failed false takes = by-job old.job takes
