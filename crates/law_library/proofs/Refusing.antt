-- A step that was refused, and whose device call was not counted, leaves the areas as they were, in either layout.
use Rattle.std.proofs.Common.{◌≡◌, ℕ, ◌==◌, Bool, true, false, List, [], ◌∷◌, Option, Some, None, Result, Ok, Err, MatchBool, MatchOption, refl, sym, ◌∙◌, ap}
use Rattle.std.proofs.Common.{subst, inl, inr, arith}
use Rattle.std.specs.Prelude.{is_some, slice_get, length}
use Rattle.std.proofs.lemmas.Bool.{eqb-true}
use Rattle.disk.specs.Calls.{DiskState, Counts, counted, top, refused_answer}
use Rattle.disk.specs.declared.area.DeviceFault.{DeviceFault}
use Rattle.group.specs.declared.answers.Did.{Did}
use Rattle.group.specs.declared.answers.PumpFault.{PumpFault}
use Rattle.group.specs.declared.answers.PumpFault.TheVariants as fault
use Rattle.group.specs.declared.queued.StoredExtent.{StoredExtent}
use Rattle.group.specs.declared.stage.NextStep.{NextStep}
use Rattle.group.specs.declared.stage.NextStep.TheVariants as step
use Rattle.group.specs.Steps.{next_step, next_extent}
use Rattle.archive.specs.Pieces.{InWriting}
use Rattle.vacuum.specs.Anchors.{Sourced}
use Rattle.wire.specs.declared.slot.Anchors.{Anchors}
use Rattle.wire.specs.declared.slot.Run.{Run}
use Rattle.status.specs.TurnState.{TurnState}
use Rattle.store.specs.Jobs.{PumpsJob, TakesJobStep, Stores, WritesOrSyncs, AnchorsOrSync, BeginsJobSlot, made_ready}
use Rattle.store.specs.Pumps.{Pumps, TakesStep, WritesExtent, MayBeginSlot, TurnsSlot, started}
use Rattle.store.specs.Values.{turn_of}
use Rattle.store.specs.Values as slots
use Rattle.store.specs.declared.job.Job.{Job}
use Rattle.store.specs.declared.job.JobDid.{JobDid}
use Rattle.store.specs.declared.job.JobDid.TheVariants as job
use Rattle.store.specs.declared.job.JobStage.{JobStage}
use Rattle.store.specs.declared.job.JobStage.TheVariants as stages
use Rattle.store.specs.declared.job.JobWork.{JobWork}
use Rattle.store.specs.declared.job.JobWork.TheVariants as works
use Rattle.log_writer.specs.Writer.{WriterState}
use Rattle.log_store.specs.Jobs as log_jobs
use Rattle.log_store.specs.Pumps as logs
use Rattle.log_store.specs.Runs as log_runs
use Rattle.log_store.specs.Gates.{waits_at, waits_to_open}
use Rattle.log_store.specs.Reclaiming.{StepsReclaim, AdvancesReclaim}
use Rattle.log_store.specs.Values.{LogStoreValue, ReclaimValue}
use Rattle.log_store.specs.declared.job.Job as log_job
use Rattle.log_store.specs.declared.job.JobDid as log_steps
use Rattle.log_store.specs.declared.job.JobStage as log_stages
use Rattle.log_store.specs.declared.job.JobStage.TheVariants as log_stage
use Rattle.log_store.specs.declared.pump.Did as log_group
use Rattle.log_store.specs.declared.pump.Did.TheVariants as log_did
use Rattle.any_store.specs.declared.engine.Engine.TheVariants.{Slots, Log}
use Rattle.any_store.specs.Calls as stores
use Rattle.any_store.specs.Jobs as jobs
use Rattle.any_store.specs.Steps.{slots_step, log_step, slots_job_step}
use Rattle.any_store.specs.Values.{StoreValue, disk_of}
use Rattle.any_store.specs.declared.steps.Did as any_steps
use Rattle.any_store.specs.declared.steps.JobDid as any_job_steps

at-top : (n : ℕ) → counted n ≡ n → n ≡ top
at-top n same = omega (arith, same)

-- a call that was not counted changed nothing
abbrev IfUncountedOn : DiskState → DiskState → Type 0
IfUncountedOn old new = (new.made == old.made) ≡ true → new.areas ≡ old.areas

abbrev IfUncounted : slots.StoreValue → slots.StoreValue → Type 0
IfUncounted old new = IfUncountedOn old.disk new.disk

uncounted-on : (r : Result (Unit {0}) DeviceFault) (old new : DiskState) → Counts r old new → IfUncountedOn old new
uncounted-on r old new counts same = (counts.full (at-top old.made (sym counts.made ∙ eqb-true new.made old.made same))).1

uncounted : (r : Result (Unit {0}) DeviceFault) (old new : slots.StoreValue) → Counts r old.disk new.disk → IfUncounted old new
uncounted r old new counts = uncounted-on r old.disk new.disk counts

nothing : (old new : slots.StoreValue) → new ≡ old → IfUncounted old new
nothing old new same is = ap (λ (v : slots.StoreValue). v.disk.areas) same

-- ---- a group, where the log is slots

abbrev pump_said : PumpFault → Result Did PumpFault
pump_said why = Err why

abbrev job_said : PumpFault → Result JobDid PumpFault
job_said why = Err why

step-same : (next : NextStep) (old new : slots.StoreValue) (why : PumpFault) → TakesStep true next old (Err why) new → IfUncounted old new
step-same step.Idle old new why takes = nothing old new takes.1
step-same step.WriteExtent old new why takes = by-extent (next_extent old.transactions) takes
  where
    by-extent : (o : Option StoredExtent) → MatchOption o ⊥ (λ stored. WritesExtent true stored old (Err why) new) → IfUncounted old new
    by-extent None never = absurd never
    by-extent (Some stored) writes = uncounted _ old new writes.call.counts
step-same step.SyncHeap old new why takes = uncounted _ old new takes.call.counts
step-same step.BeginSlot old new why takes = by-job (is_some (turn_of old.job)) takes
  where
    by-job : (b : Bool) → MatchBool b ((pump_said why ≡ pump_said fault.Busy) × (new ≡ old)) (MayBeginSlot true old (Err why) new) → IfUncounted old new
    by-job true busy = nothing old new busy.1
    by-job false (inl none) = nothing old new none.2
    by-job false (inr begins) = uncounted _ old new begins.turns.call.counts
step-same step.AdvanceSlot old new why takes = by-turn old.turn takes
  where
    by-turn : (o : Option TurnState) → MatchOption o ⊥ (λ turn. TurnsSlot true turn old (Err why) new) → IfUncounted old new
    by-turn None never = absurd never
    by-turn (Some turn) turns = uncounted _ old new turns.call.counts

slots-pump : (old new : slots.StoreValue) (why : PumpFault) → Pumps true old (Err why) new → IfUncounted old new
slots-pump old new why pumps = by-failed old.transactions.failed pumps
  where
    by-failed : (b : Bool) → MatchBool b ((pump_said why ≡ pump_said fault.Failed) × (new ≡ old))
        (TakesStep true (next_step old.transactions) (started old) (Err why) new) → IfUncounted old new
    by-failed true fails = nothing old new fails.1
    by-failed false takes = step-same (next_step old.transactions) (started old) new why takes

-- ---- a job, where the log is slots

run-same : (left : List ℕ) (run : Run) (writer : InWriting) (j : Job) (old new : slots.StoreValue) (why : PumpFault)
    → WritesOrSyncs true left run writer j old (Err why) new → IfUncounted old new
run-same [] run writer j old new why syncs = uncounted _ old new syncs.call.counts
run-same (b ∷ bs) run writer j old new why writes = uncounted _ old new writes.call.counts

anchors-same : (next : Option ℕ) (anchors : Anchors) (source : Sourced) (count : ℕ) (j : Job) (old new : slots.StoreValue) (why : PumpFault)
    → AnchorsOrSync true next anchors source count j old (Err why) new → IfUncounted old new
anchors-same None anchors source count j old new why syncs = uncounted _ old new syncs.call.counts
anchors-same (Some number) anchors source count j old new why writes = uncounted _ old new writes.call.counts

work-same : (work : JobWork) (j : Job) (old new : slots.StoreValue) (why : PumpFault) → Stores true work j old (Err why) new → IfUncounted old new
work-same (works.Archive run writer) j old new why stores = run-same writer.left run writer j old new why stores
work-same (works.Reclaim anchors source count) j old new why stores =
    anchors-same (slice_get old.transactions.reserved count) anchors source count j old new why stores
work-same (works.Floor scope floor floors) j old new why stores = absurd stores
work-same (works.Grow g) j old new why grows = uncounted _ old new grows.call.counts

disk-ready : (work : JobWork) (v : slots.StoreValue) → (made_ready work v).disk ≡ v.disk
disk-ready (works.Archive run writer) v = refl
disk-ready (works.Reclaim anchors source count) v = refl
disk-ready (works.Floor scope floor floors) v = refl
disk-ready (works.Grow g) v = refl

slot-same : (j : Job) (old new : slots.StoreValue) (why : PumpFault) → BeginsJobSlot true j old (Err why) new → IfUncounted old new
slot-same j old new why (inl none) = nothing old new none.2
slot-same j old new why (inr turns) =
    uncounted refused_answer old new (subst (λ (d : DiskState). Counts {T = Unit {0}} {E = DeviceFault} refused_answer d new.disk) (disk-ready j.work old)
    turns.call.counts)

stage-same : (stage : JobStage) (j : Job) (old new : slots.StoreValue) (why : PumpFault) → TakesJobStep true stage j old (Err why) new → IfUncounted old new
stage-same stages.Writing j old new why takes = work-same j.work j old new why takes
stage-same stages.Stored j old new why takes = by-turn (is_some old.turn) takes
  where
    by-turn : (b : Bool) → MatchBool b ((job_said why ≡ job_said fault.Busy) × (new ≡ old)) (BeginsJobSlot true j old (Err why) new) → IfUncounted old new
    by-turn true busy = nothing old new busy.1
    by-turn false begins = slot-same j old new why begins
stage-same (stages.Turning turn) j old new why takes = uncounted _ old new takes.call.counts

slots-job : (old new : slots.StoreValue) (why : PumpFault) → PumpsJob true old (Err why) new → IfUncounted old new
slots-job old new why pumps = by-failed old.transactions.failed pumps
  where
    by-job : (o : Option Job) → MatchOption o ((job_said why ≡ Ok job.Idle) × (new ≡ old)) (λ j. TakesJobStep true j.stage j old (Err why) new)
        → IfUncounted old new
    by-job None idle = nothing old new idle.1
    by-job (Some j) takes = stage-same j.stage j old new why takes

    by-failed : (b : Bool) → MatchBool b ((job_said why ≡ job_said fault.Failed) × (new ≡ old))
        (MatchOption old.job ((job_said why ≡ Ok job.Idle) × (new ≡ old)) (λ j. TakesJobStep true j.stage j old (Err why) new)) → IfUncounted old new
    by-failed true fails = nothing old new fails.1
    by-failed false takes = by-job old.job takes

-- ---- where the log lies in the heap

log-nothing : (old new : LogStoreValue) → new ≡ old → IfUncountedOn old.disk new.disk
log-nothing old new same is = ap (λ (v : LogStoreValue). v.disk.areas) same

abbrev log_said : PumpFault → Result log_group.Did PumpFault
log_said why = Err why

log-pump : (old new : LogStoreValue) (why : PumpFault) → logs.Pumps true old (Err why) new → IfUncountedOn old.disk new.disk
log-pump old new why pumps = by-failed old.commits.failed pumps
  where
    by-standing : (x : LogStoreValue) (t : Option WriterState) → logs.AdvancesGroup true x t (Err why) new → IfUncountedOn x.disk new.disk
    by-standing x None never = absurd never
    by-standing x (Some w) advances = uncounted-on refused_answer x.disk new.disk advances.counts

    begins : logs.BeginsGroup true old (Err why) new → IfUncountedOn old.disk new.disk
    begins (inl none) = log-nothing old new none.1
    begins (inr begun) =
        subst (λ (d : DiskState). IfUncountedOn d new.disk) (ap (λ (v : LogStoreValue). v.disk) begun.1.new_is)
        (by-standing begun.0 begun.0.turn begun.2)

    by-job : (b : Bool) → MatchBool b ((log_said why ≡ log_said fault.Busy) × (new ≡ old)) (logs.BeginsGroup true old (Err why) new)
        → IfUncountedOn old.disk new.disk
    by-job true busy = log-nothing old new busy.1
    by-job false begun = begins begun

    by-queue : (b : Bool) → MatchBool b ((log_said why ≡ Ok log_did.Idle) × (new ≡ old)) (logs.BeginsOrWaits true old (Err why) new)
        → IfUncountedOn old.disk new.disk
    by-queue true idle = log-nothing old new idle.1
    by-queue false begun = by-job (logs.bars_groups old.job) begun

    by-turn : (t : Option WriterState) → logs.TakesStep true old t (Err why) new → IfUncountedOn old.disk new.disk
    by-turn None takes = by-queue (length old.commits.queue == 0) takes
    by-turn (Some w) takes = by-gate (waits_to_open old.reclaim w.stage) takes
      where
        by-gate : (b : Bool) → MatchBool b ((log_said why ≡ log_said fault.Busy) × (new ≡ old)) (logs.Advances true w old (Err why) new)
            → IfUncountedOn old.disk new.disk
        by-gate true busy = log-nothing old new busy.1
        by-gate false advances = uncounted-on refused_answer old.disk new.disk advances.counts

    by-failed : (b : Bool) → MatchBool b ((log_said why ≡ log_said fault.Failed) × (new ≡ old)) (logs.TakesStep true old old.turn (Err why) new)
        → IfUncountedOn old.disk new.disk
    by-failed true fails = log-nothing old new fails.1
    by-failed false takes = by-turn old.turn takes

log-job : (old new : LogStoreValue) (said : Result log_steps.JobDid PumpFault) → log_jobs.PumpsJob true old said new → IfUncountedOn old.disk new.disk
log-job old new said pumps = by-failed old.commits.failed pumps
  where
    by-at : (x : LogStoreValue) (j : log_job.Job) (k : log_stages.JobStage) → log_jobs.AdvancesAt true j k x said new → IfUncountedOn x.disk new.disk
    by-at x j (log_stage.Writing writer) never = absurd never
    by-at x j (log_stage.Ready waited) never = absurd never
    by-at x j (log_stage.Entering w) advances = uncounted-on (log_runs.disk_answer said) x.disk new.disk advances.counts

    by-begun : (x : LogStoreValue) (o : Option log_job.Job) → log_jobs.AdvancesEntry true o x said new → IfUncountedOn x.disk new.disk
    by-begun x None never = absurd never
    by-begun x (Some j) advances = by-at x j j.stage advances

    by-turn : (j : log_job.Job) (t : Option WriterState) → log_jobs.StepsReady true j t old said new → IfUncountedOn old.disk new.disk
    by-turn j None (inl none) = log-nothing old new none.1
    by-turn j None (inr begun) =
        subst (λ (d : DiskState). IfUncountedOn d new.disk) (ap (λ (v : LogStoreValue). v.disk) begun.1.new_is) (by-begun begun.0 begun.0.job begun.2)
    by-turn j (Some w) busy = λ same. ap (λ (v : LogStoreValue). v.disk.areas) busy.1

    by-stage : (j : log_job.Job) (k : log_stages.JobStage) → log_jobs.StepsAt true j k old said new → IfUncountedOn old.disk new.disk
    by-stage j (log_stage.Writing writer) writes = uncounted-on (log_runs.disk_answer said) old.disk new.disk writes.counts
    by-stage j (log_stage.Ready waited) takes = by-turn j old.turn takes
    by-stage j (log_stage.Entering w) advances = uncounted-on (log_runs.disk_answer said) old.disk new.disk advances.counts

    by-job : (o : Option log_job.Job) → log_jobs.StepsJob true o old said new → IfUncountedOn old.disk new.disk
    by-job None idle = log-nothing old new idle.1
    by-job (Some j) takes = by-stage j j.stage takes

    by-gate : (r : ReclaimValue) (b : Bool) → MatchBool b ((said ≡ Err fault.Busy) × (new ≡ old)) (AdvancesReclaim true r old said new)
        → IfUncountedOn old.disk new.disk
    by-gate r true busy = log-nothing old new busy.1
    by-gate r false advances = uncounted-on (log_runs.disk_answer said) old.disk new.disk advances.counts

    by-reclaim : (o : Option ReclaimValue) → MatchOption o (log_jobs.StepsJob true old.job old said new) (λ r. StepsReclaim true r old said new)
        → IfUncountedOn old.disk new.disk
    by-reclaim None takes = by-job old.job takes
    by-reclaim (Some r) takes = by-gate r (waits_at old.turn r.stage) takes

    by-failed : (b : Bool) → MatchBool b ((said ≡ Err fault.Failed) × (new ≡ old))
        (MatchOption old.reclaim (log_jobs.StepsJob true old.job old said new) (λ r. StepsReclaim true r old said new)) → IfUncountedOn old.disk new.disk
    by-failed true fails = log-nothing old new fails.1
    by-failed false takes = by-reclaim old.reclaim takes

-- ---- in either

abbrev any_said : PumpFault → Result any_steps.Did PumpFault
any_said why = Err why

abbrev any_job_said : PumpFault → Result any_job_steps.JobDid PumpFault
any_job_said why = Err why

pub pump-same : (old new : StoreValue) (why : PumpFault) → stores.Pumps true old (Err why) new → IfUncountedOn (disk_of old) (disk_of new)
pump-same (Slots s) (Slots s') why pumps = by-answer pumps.0 pumps.1 pumps.2
  where
    by-answer : (said : Result Did PumpFault) → Pumps true s said s' → any_said why ≡ slots_step said → IfUncountedOn s.disk s'.disk
    by-answer (Ok what) takes is = absurd (let e = is in cc)
    by-answer (Err other) takes is = slots-pump s s' other takes
pump-same (Slots s) (Log l') why pumps = absurd pumps
pump-same (Log l) (Slots s') why pumps = absurd pumps
pump-same (Log l) (Log l') why pumps = by-answer pumps.0 pumps.1 pumps.2
  where
    by-answer : (said : Result log_group.Did PumpFault) → logs.Pumps true l said l' → any_said why ≡ log_step said → IfUncountedOn l.disk l'.disk
    by-answer (Ok what) takes is = absurd (let e = is in cc)
    by-answer (Err other) takes is = log-pump l l' other takes

pub job-same : (old new : StoreValue) (why : PumpFault) → jobs.PumpsJob true old (Err why) new → IfUncountedOn (disk_of old) (disk_of new)
job-same (Slots s) (Slots s') why pumps = by-answer pumps.0 pumps.1 pumps.2
  where
    by-answer : (said : Result JobDid PumpFault) → PumpsJob true s said s' → any_job_said why ≡ slots_job_step said → IfUncountedOn s.disk s'.disk
    by-answer (Ok what) takes is = absurd (let e = is in cc)
    by-answer (Err other) takes is = slots-job s s' other takes
job-same (Slots s) (Log l') why pumps = absurd pumps
job-same (Log l) (Slots s') why pumps = absurd pumps
job-same (Log l) (Log l') why pumps = log-job l l' pumps.0 pumps.1
