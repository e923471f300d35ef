-- The device call that stands out after a step is the step's own.
use Rattle.std.specs.Prelude.{◌≡◌, Bool, true, false, Option, None, Some, Result, Ok, Err, MatchBool, MatchOption}
use Rattle.std.proofs.Common.{◌∙◌, sym, ap, subst, refl, inl, inr, ◌⊎◌}
use Rattle.std.proofs.lemmas.Bool.{false≢true}
use Rattle.disk.specs.Areas.{Areas, AreSound}
use Rattle.disk.specs.declared.area.Area.TheVariants.{Status, Heap}
use Rattle.group.specs.declared.answers.Did.{Did as SlotsDid}
use Rattle.group.specs.declared.answers.PumpFault.{PumpFault}
use Rattle.store.specs.declared.job.JobDid.{JobDid as SlotsJobDid}
use Rattle.store.specs.Jobs as slot_jobs
use Rattle.store.specs.Pumps as slot_pumps
use Rattle.log_store.specs.Jobs as log_jobs
use Rattle.log_store.specs.Pumps as log_pumps
use Rattle.log_store.specs.declared.job.JobDid.{JobDid as LogJobDid}
use Rattle.log_store.specs.declared.pump.Did.{Did as LogDid}
use Rattle.any_store.specs.Calls.{Pumps}
use Rattle.any_store.specs.Jobs.{PumpsJob}
use Rattle.any_store.specs.Places.{log_area, job_area}
use Rattle.any_store.specs.Values.{StoreValue, disk_of}
use Rattle.any_store.specs.Steps.{slots_did, log_did, slots_job_did, log_job_did, slots_step, log_step, slots_job_step, log_job_step}
use Rattle.any_store.specs.declared.engine.Engine.TheVariants.{Slots, Log}
use Rattle.any_store.specs.declared.steps.Did.{Did}
use Rattle.any_store.specs.declared.steps.JobDid.{JobDid}
use Rattle.c_engine.specs.Engines.{asks, due_in, due_call, stopped_by, AfterStep, KeepsState, KeepsPublished}
use Rattle.c_engine.specs.Laws.{LeadsByItsCall, GroupCallIsTheSteps, JobCallIsTheSteps}
use Rattle.c_engine.specs.Steps.{group_call, job_call, call_of, of_group, of_job}
use Rattle.c_engine.specs.declared.code.Code.{Code}
use Rattle.c_engine.specs.declared.code.Code.TheVariants as code
use Rattle.c_engine.specs.declared.code.Info.{Info}
use Rattle.c_engine.specs.declared.device_call.DeviceCall.{DeviceCall}
use Rattle.c_engine.specs.declared.engine.Engine.{Engine}
use Rattle.c_engine.specs.declared.engine.EngineState.{EngineState}
use Rattle.c_engine.specs.declared.engine.EngineState.TheVariants.{Settled, Asks, Failed}
use Rattle.c_engine.specs.declared.step.Step.{Step}
use Rattle.c_engine.specs.declared.step.Step.TheVariants.{Group, Job}
use Rattle.c_engine.proofs.Leading.{LeadsBy, of-did, of-job-did}
use Rattle.c_engine.proofs.SlotCalling.{slot-pump-leads, slot-job-leads}
use Rattle.c_engine.proofs.LogCalling.{log-pump-leads, log-job-leads}

-- ---- a step, in either layout

abbrev group_said : Did → Result Did PumpFault
group_said what = Ok what

pub pump-leads : (old new : StoreValue) (what : Did) → Pumps true old (Ok what) new
    → LeadsBy (disk_of old).areas (group_call (log_area old) what) (disk_of new).areas
pump-leads (Slots s) (Slots s') what pumps = by-answer pumps.0 pumps.1 pumps.2
  where
    by-answer : (said : Result SlotsDid PumpFault) → slot_pumps.Pumps true s said s' → group_said what ≡ slots_step said
        → LeadsBy s.disk.areas (group_call Status what) s'.disk.areas
    by-answer (Ok done) takes is =
        let same : what ≡ slots_did done = (let e = is in cc) in of-did Status _ _ what (slots_did done) same (slot-pump-leads s s' done takes)
    by-answer (Err why) takes is = absurd (let e = is in cc)
pump-leads (Slots s) (Log l') what pumps = absurd pumps
pump-leads (Log l) (Slots s') what pumps = absurd pumps
pump-leads (Log l) (Log l') what pumps = by-answer pumps.0 pumps.1 pumps.2
  where
    by-answer : (said : Result LogDid PumpFault) → log_pumps.Pumps true l said l' → group_said what ≡ log_step said
        → LeadsBy l.disk.areas (group_call Heap what) l'.disk.areas
    by-answer (Ok done) takes is =
        let same : what ≡ log_did done = (let e = is in cc) in of-did Heap _ _ what (log_did done) same (log-pump-leads l l' done takes)
    by-answer (Err why) takes is = absurd (let e = is in cc)

abbrev job_said : JobDid → Result JobDid PumpFault
job_said what = Ok what

pub job-leads : (old new : StoreValue) (what : JobDid) → PumpsJob true old (Ok what) new
    → LeadsBy (disk_of old).areas (job_call (job_area old) what) (disk_of new).areas
job-leads (Slots s) (Slots s') what pumps = by-answer pumps.0 pumps.1 pumps.2
  where
    by-answer : (said : Result SlotsJobDid PumpFault) → slot_jobs.PumpsJob true s said s' → job_said what ≡ slots_job_step said
        → LeadsBy s.disk.areas (job_call Status what) s'.disk.areas
    by-answer (Ok done) takes is =
        let same : what ≡ slots_job_did done = (let e = is in cc) in of-job-did Status _ _ what (slots_job_did done) same (slot-job-leads s s' done takes)
    by-answer (Err why) takes is = absurd (let e = is in cc)
job-leads (Slots s) (Log l') what pumps = absurd pumps
job-leads (Log l) (Slots s') what pumps = absurd pumps
job-leads (Log l) (Log l') what pumps = by-answer pumps.0 pumps.1 pumps.2
  where
    by-answer : (said : Result LogJobDid PumpFault) → log_jobs.PumpsJob true l said l' → job_said what ≡ log_job_step said
        → LeadsBy l.disk.areas (job_call (job_area (Log l)) what) l'.disk.areas
    by-answer (Ok done) takes is =
        let same : what ≡ log_job_did done = (let e = is in cc) in
        of-job-did (job_area (Log l)) _ _ what (log_job_did done) same (log-job-leads l l' done takes)
    by-answer (Err why) takes is = absurd (let e = is in cc)

-- ---- what stands out

settled-asks-not : (s t : EngineState) → s ≡ Settled → t ≡ s → asks t ≡ true → ⊥
settled-asks-not s t settled same asking = false≢true (sym (ap asks (same ∙ settled)) ∙ asking)

-- after a step of this kind
after-step : (due : Option DeviceCall) (taken : Step) (old new : Engine) → call_of taken ≡ due → old.state ≡ Settled → asks new.state ≡ true
    → MatchOption due (KeepsState old new) (λ d. (new.state ≡ Asks taken) × KeepsPublished old new)
    → LeadsBy (disk_of old.store).areas due (disk_of new.store).areas
    → LeadsByItsCall (disk_of old.store).areas new.state (disk_of new.store).areas
after-step None taken old new is settled asking keeps leads = absurd (settled-asks-not old.state new.state settled keeps.0 asking)
after-step (Some due) taken old new is settled asking keeps leads =
    let state : due_in new.state ≡ Some due = ap due_in keeps.0 ∙ is in
    (leads.0, ap (λ (d : Option DeviceCall). due_call d (disk_of new.store).areas) state ∙ leads.1, leads.2)

-- a step that was refused leaves nothing to be asked for
refused-asks-not : (b : Bool) (old new : Engine) → old.state ≡ Settled → asks new.state ≡ true
    → MatchBool b (KeepsState old new) ((new.state ≡ Failed) × KeepsPublished old new) → ⊥
refused-asks-not true old new settled asking keeps = settled-asks-not old.state new.state settled keeps.0 asking
refused-asks-not false old new settled asking fails = false≢true (sym (ap asks fails.0) ∙ asking)

-- what a step of a group does where none was stopped
abbrev GroupStep : Engine → Code → Info → Engine → Type 0
GroupStep old said info new = ((said ≡ code.NoMemory) × (new ≡ old))
    ⊎ ((answer : Result Did PumpFault) × Pumps true old.store answer new.store × AreSound (disk_of new.store).areas × (new.places ≡ old.places)
    × AfterStep (of_group (log_area old.store) answer) old said info new)

-- and one of a job
abbrev JobStep : Engine → Code → Info → Engine → Type 0
JobStep old said info new = ((said ≡ code.NoMemory) × (new ≡ old))
    ⊎ ((answer : Result JobDid PumpFault) × PumpsJob true old.store answer new.store × AreSound (disk_of new.store).areas × (new.places ≡ old.places)
    × AfterStep (of_job (job_area old.store) answer) old said info new)

-- nothing stops a settled engine
unstopped : (Does : Type 0) (state : EngineState) (old new : Engine) (said : Code) → state ≡ Settled
    → MatchOption (stopped_by state) Does (λ why. (said ≡ why) × (new ≡ old)) → Does
unstopped Does state old new said settled done = subst (λ (s : EngineState). MatchOption (stopped_by s) Does (λ why. (said ≡ why) × (new ≡ old))) settled done

pub group-call : GroupCallIsTheSteps
group-call old new said info settled pumps asking = by-way (unstopped (GroupStep old said info new) old.state old new said settled pumps)
  where
    by-answer : (answer : Result Did PumpFault) → Pumps true old.store answer new.store → AfterStep (of_group (log_area old.store) answer) old said info new
        → LeadsByItsCall (disk_of old.store).areas new.state (disk_of new.store).areas
    by-answer (Ok what) takes after = after-step (group_call (log_area old.store) what) (Group (log_area old.store) what) old new refl settled asking after.2
        (pump-leads old.store new.store what takes)
    by-answer (Err why) takes after = absurd (refused-asks-not _ old new settled asking after.1)

    by-way : GroupStep old said info new → LeadsByItsCall (disk_of old.store).areas new.state (disk_of new.store).areas
    by-way (inl none) = absurd (settled-asks-not old.state new.state settled (ap (λ (e : Engine). e.state) none.1) asking)
    by-way (inr takes) = by-answer takes.0 takes.1 takes.4

pub job-call : JobCallIsTheSteps
job-call old new said info settled pumps asking = by-way (unstopped (JobStep old said info new) old.state old new said settled pumps)
  where
    by-answer : (answer : Result JobDid PumpFault) → PumpsJob true old.store answer new.store → AfterStep (of_job (job_area old.store) answer) old said info new
        → LeadsByItsCall (disk_of old.store).areas new.state (disk_of new.store).areas
    by-answer (Ok what) takes after = after-step (job_call (job_area old.store) what) (Job (job_area old.store) what) old new refl settled asking after.2
        (job-leads old.store new.store what takes)
    by-answer (Err why) takes after = absurd (refused-asks-not _ old new settled asking after.1)

    by-way : JobStep old said info new → LeadsByItsCall (disk_of old.store).areas new.state (disk_of new.store).areas
    by-way (inl none) = absurd (settled-asks-not old.state new.state settled (ap (λ (e : Engine). e.state) none.1) asking)
    by-way (inr takes) = by-answer takes.0 takes.1 takes.4
