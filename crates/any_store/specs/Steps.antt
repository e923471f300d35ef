-- What a step of a group or of a job is told as, whichever the layout.
use Rattle.std.specs.Prelude.{◌≡◌, Bool, Result, Ok, Err}
use Rattle.group.specs.declared.answers.Did as slots
use Rattle.group.specs.declared.answers.Did.TheVariants as slots_group
use Rattle.group.specs.declared.answers.PumpFault.{PumpFault}
use Rattle.store.specs.Jobs as slot_jobs
use Rattle.store.specs.Pumps as slot_pumps
use Rattle.store.specs.Values as slot_values
use Rattle.store.specs.declared.job.JobDid as slots_jobs
use Rattle.store.specs.declared.job.JobDid.TheVariants as slots_job
use Rattle.log_store.specs.Jobs as log_jobs
use Rattle.log_store.specs.Pumps as log_pumps
use Rattle.log_store.specs.Values.{LogStoreValue}
use Rattle.log_store.specs.declared.pump.Did as logs
use Rattle.log_store.specs.declared.pump.Did.TheVariants as log_group
use Rattle.log_store.specs.declared.job.JobDid as logs_jobs
use Rattle.log_store.specs.declared.job.JobDid.TheVariants as log_job
use Rattle.any_store.specs.declared.steps.Did.{Did}
use Rattle.any_store.specs.declared.steps.Did.TheVariants as did
use Rattle.any_store.specs.declared.steps.JobDid.{JobDid}
use Rattle.any_store.specs.declared.steps.JobDid.TheVariants as job

-- ---- steps of a group

abbrev pub slots_did : slots.Did → Did
slots_did slots_group.Idle = did.Idle
slots_did slots_group.WroteExtent = did.WroteExtent
slots_did slots_group.HeapSynced = did.HeapSynced
slots_did slots_group.BodyWritten = did.BodyWritten
slots_did slots_group.BodySynced = did.BodySynced
slots_did slots_group.GateWritten = did.GateWritten
slots_did (slots_group.Published count) = did.Published count

abbrev pub log_did : logs.Did → Did
log_did log_group.Idle = did.Idle
log_did log_group.WroteExtent = did.WroteExtent
log_did log_group.GateClosed = did.GateClosed
log_did log_group.HeapSynced = did.HeapSynced
log_did log_group.GateWritten = did.GateWritten
log_did (log_group.Published count) = did.Published count

abbrev pub slots_step : Result slots.Did PumpFault → Result Did PumpFault
slots_step (Ok what) = Ok (slots_did what)
slots_step (Err why) = Err why

abbrev pub log_step : Result logs.Did PumpFault → Result Did PumpFault
log_step (Ok what) = Ok (log_did what)
log_step (Err why) = Err why

-- a step of a group of slots, and of one in the heap
abbrev pub PumpsSlots : Bool → Result Did PumpFault → slot_values.StoreValue → slot_values.StoreValue → Type 0
PumpsSlots tells answer old new = (said : Result slots.Did PumpFault) × slot_pumps.Pumps tells old said new × (answer ≡ slots_step said)

abbrev pub PumpsLog : Bool → Result Did PumpFault → LogStoreValue → LogStoreValue → Type 0
PumpsLog tells answer old new = (said : Result logs.Did PumpFault) × log_pumps.Pumps tells old said new × (answer ≡ log_step said)

-- ---- steps of a job

abbrev pub slots_job_did : slots_jobs.JobDid → JobDid
slots_job_did slots_job.Idle = job.Idle
slots_job_did slots_job.WroteRun = job.WroteRun
slots_job_did slots_job.RunSynced = job.RunSynced
slots_job_did slots_job.WroteExtent = job.WroteExtent
slots_job_did slots_job.HeapSynced = job.HeapSynced
slots_job_did slots_job.WroteZeros = job.WroteZeros
slots_job_did slots_job.ZerosSynced = job.ZerosSynced
slots_job_did slots_job.BodyWritten = job.BodyWritten
slots_job_did slots_job.BodySynced = job.BodySynced
slots_job_did slots_job.GateWritten = job.GateWritten
slots_job_did slots_job.JobDone = job.JobDone

abbrev pub log_job_did : logs_jobs.JobDid → JobDid
log_job_did log_job.Idle = job.Idle
log_job_did log_job.WroteRun = job.WroteRun
log_job_did log_job.RunSynced = job.RunSynced
log_job_did log_job.WroteEntry = job.WroteEntry
log_job_did log_job.GateClosed = job.GateClosed
log_job_did log_job.HeapSynced = job.HeapSynced
log_job_did log_job.GateWritten = job.GateWritten
log_job_did log_job.WroteExtent = job.WroteExtent
log_job_did log_job.WroteRoll = job.WroteRoll
log_job_did log_job.RollSynced = job.RollSynced
log_job_did log_job.RootWritten = job.RootWritten
log_job_did log_job.RootSynced = job.RootSynced
log_job_did log_job.TurnWritten = job.TurnWritten
log_job_did log_job.JobDone = job.JobDone

abbrev pub slots_job_step : Result slots_jobs.JobDid PumpFault → Result JobDid PumpFault
slots_job_step (Ok what) = Ok (slots_job_did what)
slots_job_step (Err why) = Err why

abbrev pub log_job_step : Result logs_jobs.JobDid PumpFault → Result JobDid PumpFault
log_job_step (Ok what) = Ok (log_job_did what)
log_job_step (Err why) = Err why

-- a step of a job over slots, and over a log in the heap
abbrev pub PumpsSlotsJob : Bool → Result JobDid PumpFault → slot_values.StoreValue → slot_values.StoreValue → Type 0
PumpsSlotsJob tells answer old new = (said : Result slots_jobs.JobDid PumpFault) × slot_jobs.PumpsJob tells old said new × (answer ≡ slots_job_step said)

abbrev pub PumpsLogJob : Bool → Result JobDid PumpFault → LogStoreValue → LogStoreValue → Type 0
PumpsLogJob tells answer old new = (said : Result logs_jobs.JobDid PumpFault) × log_jobs.PumpsJob tells old said new × (answer ≡ log_job_step said)
