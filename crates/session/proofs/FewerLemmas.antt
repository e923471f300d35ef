-- Each step of a group or a job makes one device call, whatever the layout, and the calls that are left grow fewer.
use Rattle.std.proofs.Common.{◌≡◌, ◌≢◌, ◌∙◌, Bool, true, false, ℕ, length, Option, Some, None, Result, Ok, Err, MatchBool, ap, subst, inl, inr}
use Rattle.std.proofs.Common.{MatchOption}
use Rattle.std.specs.Prelude.{◌==◌}
use Rattle.disk.specs.Calls.{DiskState}
use Rattle.group.specs.declared.answers.Did as slot_groups
use Rattle.group.specs.declared.answers.PumpFault.{PumpFault}
use Rattle.group.specs.declared.answers.PumpFault.TheVariants as fault
use Rattle.log_writer.specs.Writer.{WriterState}
use Rattle.log_store.specs.Jobs as log_jobs
use Rattle.log_store.specs.Gates.{waits_at, waits_to_open}
use Rattle.log_store.specs.Reclaiming.{StepsReclaim, AdvancesReclaim}
use Rattle.log_store.specs.Values.{LogStoreValue, ReclaimValue}
use Rattle.log_store.specs.declared.job.Job as log_job
use Rattle.log_store.specs.declared.job.JobDid as log_steps
use Rattle.log_store.specs.declared.job.JobDid.TheVariants as log_entry
use Rattle.log_store.specs.declared.job.JobStage as log_stages
use Rattle.log_store.specs.declared.job.JobStage.TheVariants as log_stage
use Rattle.log_store.specs.declared.pump.Did as log_groups
use Rattle.log_store.specs.declared.pump.Did.TheVariants as log_group
use Rattle.log_store.specs.Pumps as log
use Rattle.store.specs.Jobs as slot_jobs
use Rattle.store.specs.Pumps as slot_pumps
use Rattle.store.specs.Values as slot_values
use Rattle.store.specs.declared.job.JobDid as slot_steps
use Rattle.any_store.specs.declared.steps.Did.{Did}
use Rattle.any_store.specs.declared.steps.Did.TheVariants as group
use Rattle.any_store.specs.declared.steps.JobDid.{JobDid}
use Rattle.any_store.specs.declared.steps.JobDid.TheVariants as did
use Rattle.any_store.specs.Values.{StoreValue, disk_of}
use Rattle.any_store.specs.Calls.{Pumps}
use Rattle.any_store.specs.Jobs.{PumpsJob}
use Rattle.any_store.specs.Steps.{slots_did, log_did, slots_step, log_step, slots_job_did, log_job_did, slots_job_step, log_job_step}
use Rattle.any_store.specs.declared.engine.Engine.TheVariants.{Slots, Log}
use Rattle.session.proofs.JobLemmas.{IsFewer, counted-fewer, slots-fewer, group-slots-fewer}

chain-fewer : (tells : Bool) (o : Option WriterState) (old new : LogStoreValue) (what : log_groups.Did) → log.AdvancesGroup tells old o (Ok what) new
    → IsFewer old.disk new.disk
chain-fewer tells None old new what takes = absurd takes
chain-fewer tells (Some w) old new what takes = counted-fewer old.disk new.disk takes.counts

begun-fewer : (tells b : Bool) (old new : LogStoreValue) (what : log_groups.Did)
    → MatchBool b (Path (Result log_groups.Did PumpFault) (Ok what) (Err fault.Busy) × (new ≡ old)) (log.BeginsGroup tells old (Ok what) new)
    → what ≢ log_group.Idle → IsFewer old.disk new.disk
begun-fewer tells true old new what takes some = absurd (let is = takes.0 in cc)
begun-fewer tells false old new what (inl short) some = absurd (let is = short.0 in cc)
begun-fewer tells false old new what (inr (begun, begins, takes)) some =
    subst (λ (d : DiskState). IsFewer d new.disk) (ap (λ (v : LogStoreValue). v.disk) begins.new_is) (chain-fewer tells begun.turn begun new what takes)

waits-fewer : (tells b : Bool) (old new : LogStoreValue) (what : log_groups.Did)
    → MatchBool b (Path (Result log_groups.Did PumpFault) (Ok what) (Ok log_group.Idle) × (new ≡ old)) (log.BeginsOrWaits tells old (Ok what) new)
    → what ≢ log_group.Idle → IsFewer old.disk new.disk
waits-fewer tells true old new what takes some = absurd (some (let is = takes.0 in cc))
waits-fewer tells false old new what takes some = begun-fewer tells (log.bars_groups old.job) old new what takes some

-- the gate of a group waits for a turn gate that is written and not synced
gate-fewer : (tells b : Bool) (w : WriterState) (old new : LogStoreValue) (what : log_groups.Did)
    → MatchBool b (Path (Result log_groups.Did PumpFault) (Ok what) (Err fault.Busy) × (new ≡ old)) (log.Advances tells w old (Ok what) new)
    → IsFewer old.disk new.disk
gate-fewer tells true w old new what takes = absurd (let is = takes.0 in cc)
gate-fewer tells false w old new what takes = counted-fewer old.disk new.disk takes.counts

step-fewer : (tells : Bool) (o : Option WriterState) (old new : LogStoreValue) (what : log_groups.Did) → log.TakesStep tells old o (Ok what) new
    → what ≢ log_group.Idle → IsFewer old.disk new.disk
step-fewer tells None old new what takes some = waits-fewer tells (length old.commits.queue == 0) old new what takes some
step-fewer tells (Some w) old new what takes some = gate-fewer tells (waits_to_open old.reclaim w.stage) w old new what takes

log-fewer : (tells b : Bool) (old new : LogStoreValue) (what : log_groups.Did)
    → MatchBool b (Path (Result log_groups.Did PumpFault) (Ok what) (Err fault.Failed) × (new ≡ old)) (log.TakesStep tells old old.turn (Ok what) new)
    → what ≢ log_group.Idle → IsFewer old.disk new.disk
log-fewer tells true old new what pumps some = absurd (let is = pumps.0 in cc)
log-fewer tells false old new what pumps some = step-fewer tells old.turn old new what pumps some

entry-fewer : (tells : Bool) (k : log_stages.JobStage) (job : log_job.Job) (old new : LogStoreValue) (done : log_steps.JobDid)
    → log_jobs.AdvancesAt tells job k old (Ok done) new → IsFewer old.disk new.disk
entry-fewer tells (log_stage.Writing writer) job old new done takes = absurd takes
entry-fewer tells (log_stage.Ready waited) job old new done takes = absurd takes
entry-fewer tells (log_stage.Entering w) job old new done takes = counted-fewer old.disk new.disk takes.counts

entered-fewer : (tells : Bool) (o : Option log_job.Job) (old new : LogStoreValue) (done : log_steps.JobDid)
    → log_jobs.AdvancesEntry tells o old (Ok done) new → IsFewer old.disk new.disk
entered-fewer tells None old new done takes = absurd takes
entered-fewer tells (Some job) old new done takes = entry-fewer tells job.stage job old new done takes

ready-fewer : (tells : Bool) (t : Option WriterState) (job : log_job.Job) (old new : LogStoreValue) (done : log_steps.JobDid)
    → log_jobs.StepsReady tells job t old (Ok done) new → IsFewer old.disk new.disk
ready-fewer tells None job old new done (inl short) = absurd (let is = short.0 in cc)
ready-fewer tells None job old new done (inr (begun, begins, takes)) =
    subst (λ (d : DiskState). IsFewer d new.disk) (ap (λ (v : LogStoreValue). v.disk) begins.new_is) (entered-fewer tells begun.job begun new done takes)
ready-fewer tells (Some w) job old new done busy = absurd (let is = busy.0 in cc)

job-step-fewer : (tells : Bool) (k : log_stages.JobStage) (job : log_job.Job) (old new : LogStoreValue) (done : log_steps.JobDid)
    → log_jobs.StepsAt tells job k old (Ok done) new → IsFewer old.disk new.disk
job-step-fewer tells (log_stage.Writing writer) job old new done takes = counted-fewer old.disk new.disk takes.counts
job-step-fewer tells (log_stage.Ready waited) job old new done takes = ready-fewer tells old.turn job old new done takes
job-step-fewer tells (log_stage.Entering w) job old new done takes = counted-fewer old.disk new.disk takes.counts

job-fewer : (tells : Bool) (o : Option log_job.Job) (old new : LogStoreValue) (done : log_steps.JobDid) → log_jobs.StepsJob tells o old (Ok done) new
    → done ≢ log_entry.Idle → IsFewer old.disk new.disk
job-fewer tells None old new done takes some = absurd (some (let is = takes.0 in cc))
job-fewer tells (Some job) old new done takes some = job-step-fewer tells job.stage job old new done takes

-- a turn gate waits for the gate of a group that is written and not synced
turn-fewer : (tells b : Bool) (r : ReclaimValue) (old new : LogStoreValue) (done : log_steps.JobDid)
    → MatchBool b (Path (Result log_steps.JobDid PumpFault) (Ok done) (Err fault.Busy) × (new ≡ old)) (AdvancesReclaim tells r old (Ok done) new)
    → IsFewer old.disk new.disk
turn-fewer tells true r old new done takes = absurd (let is = takes.0 in cc)
turn-fewer tells false r old new done takes = counted-fewer old.disk new.disk takes.counts

reclaim-fewer : (tells : Bool) (o : Option ReclaimValue) (old new : LogStoreValue) (done : log_steps.JobDid)
    → MatchOption o (log_jobs.StepsJob tells old.job old (Ok done) new) (λ r. StepsReclaim tells r old (Ok done) new) → done ≢ log_entry.Idle
    → IsFewer old.disk new.disk
reclaim-fewer tells None old new done takes some = job-fewer tells old.job old new done takes some
reclaim-fewer tells (Some r) old new done takes some = turn-fewer tells (waits_at old.turn r.stage) r old new done takes

works-fewer : (tells b : Bool) (old new : LogStoreValue) (done : log_steps.JobDid)
    → MatchBool b (Path (Result log_steps.JobDid PumpFault) (Ok done) (Err fault.Failed) × (new ≡ old))
    (MatchOption old.reclaim (log_jobs.StepsJob tells old.job old (Ok done) new) (λ r. StepsReclaim tells r old (Ok done) new))
    → done ≢ log_entry.Idle → IsFewer old.disk new.disk
works-fewer tells true old new done pumps some = absurd (let is = pumps.0 in cc)
works-fewer tells false old new done pumps some = reclaim-fewer tells old.reclaim old new done pumps some

-- ---- as either layout tells it

slots-group-told : (tells : Bool) (old new : slot_values.StoreValue) (said : Result slot_groups.Did PumpFault) (what : Did)
    → slot_pumps.Pumps tells old said new → Path (Result Did PumpFault) (Ok what) (slots_step said) → what ≢ group.Idle → IsFewer old.disk new.disk
slots-group-told tells old new (Ok done) what pumps is some =
    let same : what ≡ slots_did done = (let e = is in cc) in
    group-slots-fewer tells old new done pumps (λ idle. some (same ∙ ap slots_did idle))
slots-group-told tells old new (Err why) what pumps is some = absurd (let e = is in cc)

log-group-told : (tells : Bool) (old new : LogStoreValue) (said : Result log_groups.Did PumpFault) (what : Did) → log.Pumps tells old said new
    → Path (Result Did PumpFault) (Ok what) (log_step said) → what ≢ group.Idle → IsFewer old.disk new.disk
log-group-told tells old new (Ok done) what pumps is some =
    let same : what ≡ log_did done = (let e = is in cc) in
    log-fewer tells old.commits.failed old new done pumps (λ idle. some (same ∙ ap log_did idle))
log-group-told tells old new (Err why) what pumps is some = absurd (let e = is in cc)

slots-job-told : (tells : Bool) (old new : slot_values.StoreValue) (said : Result slot_steps.JobDid PumpFault) (what : JobDid)
    → slot_jobs.PumpsJob tells old said new → Path (Result JobDid PumpFault) (Ok what) (slots_job_step said) → what ≢ did.Idle → IsFewer old.disk new.disk
slots-job-told tells old new (Ok done) what pumps is some =
    let same : what ≡ slots_job_did done = (let e = is in cc) in
    slots-fewer tells old new done pumps (λ idle. some (same ∙ ap slots_job_did idle))
slots-job-told tells old new (Err why) what pumps is some = absurd (let e = is in cc)

log-job-told : (tells : Bool) (old new : LogStoreValue) (said : Result log_steps.JobDid PumpFault) (what : JobDid) → log_jobs.PumpsJob tells old said new
    → Path (Result JobDid PumpFault) (Ok what) (log_job_step said) → what ≢ did.Idle → IsFewer old.disk new.disk
log-job-told tells old new (Ok done) what pumps is some =
    let same : what ≡ log_job_did done = (let e = is in cc) in
    works-fewer tells old.commits.failed old new done pumps (λ idle. some (same ∙ ap log_job_did idle))
log-job-told tells old new (Err why) what pumps is some = absurd (let e = is in cc)

pub pump-fewer : (tells : Bool) (old new : StoreValue) (what : JobDid) → PumpsJob tells old (Ok what) new → what ≢ did.Idle
    → IsFewer (disk_of old) (disk_of new)
pump-fewer tells (Slots s) (Slots t) what pumps some = slots-job-told tells s t pumps.0 what pumps.1 pumps.2 some
pump-fewer tells (Slots s) (Log m) what pumps some = absurd pumps
pump-fewer tells (Log l) (Slots t) what pumps some = absurd pumps
pump-fewer tells (Log l) (Log m) what pumps some = log-job-told tells l m pumps.0 what pumps.1 pumps.2 some

-- so it is of the steps of a group
pub group-fewer : (tells : Bool) (old new : StoreValue) (what : Did) → Pumps tells old (Ok what) new → what ≢ group.Idle
    → IsFewer (disk_of old) (disk_of new)
group-fewer tells (Slots s) (Slots t) what pumps some = slots-group-told tells s t pumps.0 what pumps.1 pumps.2 some
group-fewer tells (Slots s) (Log m) what pumps some = absurd pumps
group-fewer tells (Log l) (Slots t) what pumps some = absurd pumps
group-fewer tells (Log l) (Log m) what pumps some = log-group-told tells l m pumps.0 what pumps.1 pumps.2 some
