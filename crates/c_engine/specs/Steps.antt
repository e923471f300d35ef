-- Steps, and the device call of each.
use Rattle.std.specs.Prelude.{Option, None, Some, Result, Ok, Err}
use Rattle.disk.specs.declared.area.Area.{Area}
use Rattle.disk.specs.declared.area.Area.TheVariants.{Status, Heap, Archive}
use Rattle.group.specs.declared.answers.PumpFault.{PumpFault}
use Rattle.any_store.specs.declared.steps.Did.{Did}
use Rattle.any_store.specs.declared.steps.Did.TheVariants as did
use Rattle.any_store.specs.declared.steps.JobDid.{JobDid}
use Rattle.any_store.specs.declared.steps.JobDid.TheVariants as job
use Rattle.c_engine.specs.Codes.{told_did, job_number}
use Rattle.c_engine.specs.declared.code.Info.{Info}
use Rattle.c_engine.specs.declared.device_call.DeviceCall.{DeviceCall}
use Rattle.c_engine.specs.declared.device_call.DeviceCall.TheVariants.{Write, Sync}
use Rattle.c_engine.specs.declared.step.Step.{Step}
use Rattle.c_engine.specs.declared.step.Step.TheVariants.{Group, Job}

-- the device call of a step of a group, by the area of the log and by what it did
abbrev pub group_call : Area → Did → Option DeviceCall
group_call log did.Idle = None
group_call log did.WroteExtent = Some (Write Heap)
group_call log did.GateClosed = Some (Write Heap)
group_call log did.HeapSynced = Some (Sync Heap)
group_call log did.BodyWritten = Some (Write log)
group_call log did.BodySynced = Some (Sync log)
group_call log did.GateWritten = Some (Write log)
group_call log (did.Published count) = Some (Sync log)

-- the device call of a step of a job, by the area of the gate that makes it count
abbrev pub job_call : Area → JobDid → Option DeviceCall
job_call log job.Idle = None
job_call log job.WroteRun = Some (Write Archive)
job_call log job.RunSynced = Some (Sync Archive)
job_call log job.BodyWritten = Some (Write log)
job_call log job.BodySynced = Some (Sync log)
job_call log job.GateWritten = Some (Write log)
job_call log job.JobDone = Some (Sync log)
job_call log job.WroteExtent = Some (Write Heap)
job_call log job.HeapSynced = Some (Sync Heap)
job_call log job.WroteZeros = Some (Write Status)
job_call log job.ZerosSynced = Some (Sync Status)
job_call log job.WroteEntry = Some (Write Heap)
job_call log job.GateClosed = Some (Write Heap)
job_call log job.WroteRoll = Some (Write Archive)
job_call log job.RollSynced = Some (Sync Archive)
job_call log job.RootWritten = Some (Write Status)
job_call log job.RootSynced = Some (Sync Status)
job_call log job.TurnWritten = Some (Write Status)

-- the device call of a step; none where there was nothing to do
abbrev pub call_of : Step → Option DeviceCall
call_of (Group log what) = group_call log what
call_of (Job log what) = job_call log what

-- what a step did, as it is told once its device call is made
abbrev pub told_step : Step → Info
told_step (Group log what) = told_did what
told_step (Job log what) = record { a = job_number what; b = 0 }

-- what is told of a step at first: that a device call is due, or that there was nothing to do
abbrev pub told_due : Option DeviceCall → Info
told_due None = record { a = 0; b = 0 }
told_due (Some due) = record { a = 11; b = 0 }

-- what a group's step answered, as a step of a store whose log lies in this area
abbrev pub of_group : Area → Result Did PumpFault → Result Step PumpFault
of_group log (Ok what) = Ok (Group log what)
of_group log (Err why) = Err why

-- what a job's step answered, so too
abbrev pub of_job : Area → Result JobDid PumpFault → Result Step PumpFault
of_job log (Ok what) = Ok (Job log what)
of_job log (Err why) = Err why
