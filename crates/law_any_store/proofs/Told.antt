-- What the machine does in a step, by the name that an engine gives the step and by the name that it is told by.
use Rattle.std.proofs.Common.{◌≡◌, Bool, true, false, cond, [], ◌++◌, Option, None, Some, Result, Ok, Err, refl, ap, append-nil}
use Rattle.history.specs.Floors.{Raising}
use Rattle.history.specs.Machine.{Machine, Gate}
use Rattle.law_image.specs.Values.{Value}
use Rattle.group.specs.declared.answers.Did as slots
use Rattle.group.specs.declared.answers.Did.TheVariants as slots_group
use Rattle.group.specs.declared.answers.PumpFault.{PumpFault}
use Rattle.group.specs.declared.answers.PumpFault.TheVariants as pump
use Rattle.store.specs.declared.job.JobDid as slots_jobs
use Rattle.store.specs.declared.job.JobDid.TheVariants as slots_job
use Rattle.log_store.specs.declared.pump.Did as logs
use Rattle.log_store.specs.declared.pump.Did.TheVariants as log_group
use Rattle.log_store.specs.declared.job.JobDid as logs_jobs
use Rattle.log_store.specs.declared.job.JobDid.TheVariants as log_job
use Rattle.any_store.specs.Steps.{slots_did, log_did, slots_step, log_step, slots_job_did, log_job_did, slots_job_step, log_job_step}
use Rattle.law_refinement.specs.Laws.{begins_in, ends_in, breaks_in, job_breaks_in}
use Rattle.law_refinement.specs.Laws as slot_ends
use Rattle.law_log_steps.specs.Laws as log_ends
use Rattle.law_any_store.specs.Calls.{group_ends, pumped_in, floor_ends_in, floor_ends, job_ends_in}

-- ---- steps of a group

slots-group : (gate : Gate) (what : slots.Did) → ends_in gate (Ok what) ≡ group_ends false (slots_did what)
slots-group gate slots_group.Idle = refl
slots-group gate slots_group.WroteExtent = refl
slots-group gate slots_group.HeapSynced = refl
slots-group gate slots_group.BodyWritten = refl
slots-group gate slots_group.BodySynced = refl
slots-group gate slots_group.GateWritten = refl
slots-group gate (slots_group.Published count) = refl

pub slots-told : (m : Machine Value) (said : Result slots.Did PumpFault) → begins_in m ++ ends_in m.gate said ≡ pumped_in false m (slots_step said)
slots-told m (Ok what) = ap (λ events. begins_in m ++ events) (slots-group m.gate what)
slots-told m (Err pump.Busy) = append-nil (begins_in m)
slots-told m (Err pump.NoMemory) = append-nil (begins_in m)
slots-told m (Err pump.Failed) = refl

log-group : (what : logs.Did) → log_ends.group_ends what ≡ group_ends true (log_did what)
log-group log_group.Idle = refl
log-group log_group.WroteExtent = refl
log-group log_group.GateClosed = refl
log-group log_group.HeapSynced = refl
log-group log_group.GateWritten = refl
log-group (log_group.Published count) = refl

-- a log in the heap, where the machine has not failed
pub log-told : (m : Machine Value) (said : Result logs.Did PumpFault) → m.failed ≡ false → log_ends.events_in m said ≡ pumped_in true m (log_step said)
log-told m (Ok what) works = ap (λ events. begins_in m ++ events) (log-group what)
log-told m (Err pump.Busy) works = refl
log-told m (Err pump.NoMemory) works = refl
log-told m (Err pump.Failed) works = ap (λ (b : Bool). cond b [] (begins_in m ++ breaks_in m.gate)) works

-- ---- steps of a job

slots-floor : (what : slots_jobs.JobDid) (r : Raising) → slot_ends.floor_ends_in what r ≡ floor_ends_in false (slots_job_did what) r
slots-floor slots_job.Idle r = refl
slots-floor slots_job.WroteRun r = refl
slots-floor slots_job.RunSynced r = refl
slots-floor slots_job.WroteExtent r = refl
slots-floor slots_job.HeapSynced r = refl
slots-floor slots_job.WroteZeros r = refl
slots-floor slots_job.ZerosSynced r = refl
slots-floor slots_job.BodyWritten r = refl
slots-floor slots_job.BodySynced r = refl
slots-floor slots_job.GateWritten r = refl
slots-floor slots_job.JobDone r = refl

slots-floors : (what : slots_jobs.JobDid) (o : Option Raising) → slot_ends.floor_ends what o ≡ floor_ends false (slots_job_did what) o
slots-floors what None = refl
slots-floors what (Some r) = slots-floor what r

pub slots-job-told : (m : Machine Value) (said : Result slots_jobs.JobDid PumpFault) → slot_ends.job_ends_in m said ≡ job_ends_in false m (slots_job_step said)
slots-job-told m (Ok what) = slots-floors what m.raising
slots-job-told m (Err pump.Busy) = refl
slots-job-told m (Err pump.NoMemory) = refl
slots-job-told m (Err pump.Failed) = refl

log-floor : (what : logs_jobs.JobDid) (r : Raising) → log_ends.floor_events what r ≡ floor_ends_in true (log_job_did what) r
log-floor log_job.Idle r = refl
log-floor log_job.WroteRun r = refl
log-floor log_job.RunSynced r = refl
log-floor log_job.WroteEntry r = refl
log-floor log_job.GateClosed r = refl
log-floor log_job.HeapSynced r = refl
log-floor log_job.GateWritten r = refl
log-floor log_job.WroteExtent r = refl
log-floor log_job.WroteRoll r = refl
log-floor log_job.RollSynced r = refl
log-floor log_job.RootWritten r = refl
log-floor log_job.RootSynced r = refl
log-floor log_job.TurnWritten r = refl
log-floor log_job.JobDone r = refl

log-floors : (what : logs_jobs.JobDid) (o : Option Raising) → log_ends.floor_ends what o ≡ floor_ends true (log_job_did what) o
log-floors what None = refl
log-floors what (Some r) = log-floor what r

pub log-job-told : (m : Machine Value) (said : Result logs_jobs.JobDid PumpFault) → m.failed ≡ false
    → log_ends.job_events_in m said ≡ job_ends_in true m (log_job_step said)
log-job-told m (Ok what) works = log-floors what m.raising
log-job-told m (Err pump.Busy) works = refl
log-job-told m (Err pump.NoMemory) works = refl
log-job-told m (Err pump.Failed) works = ap (λ (b : Bool). cond b [] (job_breaks_in m.gate)) works
