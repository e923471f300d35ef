-- Codes: their numbers, and which of them a store's answers have.
use Rattle.std.specs.Prelude.{◌≡◌, ℕ, ℤ, pos, negsuc, Option, None, Some, Result, Ok, Err}
use Rattle.disk.specs.declared.area.Area.{Area}
use Rattle.group.specs.declared.answers.BeginFault.{BeginFault}
use Rattle.group.specs.declared.answers.BeginFault.TheVariants as begin
use Rattle.group.specs.declared.answers.PumpFault.{PumpFault}
use Rattle.group.specs.declared.answers.PumpFault.TheVariants as pump
use Rattle.group.specs.declared.answers.SubmitFault.{SubmitFault}
use Rattle.group.specs.declared.answers.SubmitFault.TheVariants as submit
use Rattle.recovery.specs.declared.fault.OpenFault.{OpenFault}
use Rattle.recovery.specs.declared.fault.OpenFault.TheVariants as fault
use Rattle.snapshot.specs.declared.txn.TxnFault.{TxnFault}
use Rattle.snapshot.specs.declared.txn.TxnFault.TheVariants as txn
use Rattle.store.specs.declared.job.StartFault.{StartFault}
use Rattle.store.specs.declared.job.StartFault.TheVariants as start
use Rattle.any_store.specs.declared.steps.Did.{Did}
use Rattle.any_store.specs.declared.steps.Did.TheVariants as did
use Rattle.any_store.specs.declared.steps.JobDid.{JobDid}
use Rattle.any_store.specs.declared.steps.JobDid.TheVariants as job
use Rattle.c_engine.specs.Areas.{area_number}
use Rattle.c_engine.specs.declared.code.Code.{Code}
use Rattle.c_engine.specs.declared.code.Code.TheVariants as code
use Rattle.c_engine.specs.declared.code.Info.{Info}
use Rattle.c_engine.specs.declared.engine.Engine.{Engine}

-- 0 and more for an answer, less than 0 for a refusal
abbrev pub code_number : Code → ℤ
code_number code.Ok = pos 0
code_number code.None = pos 1
code_number code.Waiting = pos 2
code_number code.ReadOnly = pos 3
code_number code.InDoubt = pos 4
code_number code.Pending = negsuc 0
code_number code.Closed = negsuc 1
code_number code.Unknown = negsuc 2
code_number code.Small = negsuc 3
code_number code.NoMemory = negsuc 4
code_number code.Failed = negsuc 5
code_number code.Stranger = negsuc 6
code_number code.Conflict = negsuc 7
code_number code.HeapFull = negsuc 8
code_number code.StatusFull = negsuc 9
code_number code.ClockEnd = negsuc 10
code_number code.Missing = negsuc 11
code_number code.TooManyKeys = negsuc 12
code_number code.BadValue = negsuc 13
code_number code.BeforeKept = negsuc 14
code_number code.NotYet = negsuc 15
code_number code.EmptyInterval = negsuc 16
code_number code.Damaged = negsuc 17
code_number code.NotAStore = negsuc 18
code_number code.Busy = negsuc 19
code_number code.JobBusy = negsuc 20
code_number code.NothingToDo = negsuc 21
code_number code.ArchiveFull = negsuc 22
code_number code.BadSlots = negsuc 23
code_number code.InUse = negsuc 24
code_number code.NeedsArchive = negsuc 25
code_number code.WrongProfile = negsuc 26
code_number code.NotGrowable = negsuc 27

-- ---- the codes of a store's answers

-- the place of what is damaged, and its area, are told
abbrev pub IsDamagedCode : Area → ℕ → Code → Info → Type 0
IsDamagedCode area place said info = (said ≡ code.Damaged) × (info.a ≡ place) × (info.b ≡ area_number area)

-- the code for why no store opens, and what is told with it
abbrev pub IsOpenCode : OpenFault → Code → Info → Type 0
IsOpenCode fault.NotAStore said info = said ≡ code.NotAStore
IsOpenCode (fault.Damaged area place) said info = IsDamagedCode area place said info
IsOpenCode fault.Device said info = said ≡ code.Failed
IsOpenCode fault.NoMemory said info = said ≡ code.NoMemory

-- the code for why no transaction begins
abbrev pub begin_code : BeginFault → Code
begin_code begin.NoMemory = code.NoMemory
begin_code begin.Failed = code.Failed

-- the code for what a transaction answers to a write
abbrev pub txn_code : Result (Unit {0}) TxnFault → Code
txn_code (Ok done) = code.Ok
txn_code (Err txn.Missing) = code.Missing
txn_code (Err txn.TooManyKeys) = code.TooManyKeys
txn_code (Err txn.BadValue) = code.BadValue
txn_code (Err txn.NoMemory) = code.NoMemory

-- the key of a conflict is told
abbrev pub IsSubmitCode : SubmitFault → Code → Info → Type 0
IsSubmitCode (submit.Conflict key) said info = (said ≡ code.Conflict) × (info.a ≡ key.relation) × (info.b ≡ key.«record»)
IsSubmitCode submit.HeapFull said info = said ≡ code.HeapFull
IsSubmitCode submit.StatusFull said info = said ≡ code.StatusFull
IsSubmitCode submit.ClockEnd said info = said ≡ code.ClockEnd
IsSubmitCode submit.NoMemory said info = said ≡ code.NoMemory
IsSubmitCode submit.Failed said info = said ≡ code.Failed
IsSubmitCode submit.Stranger said info = said ≡ code.Stranger

-- the code for why a step of a group or of a job is refused
abbrev pub pump_code : PumpFault → Code
pump_code pump.Busy = code.Busy
pump_code pump.NoMemory = code.NoMemory
pump_code pump.Failed = code.Failed

-- the time of the last commit, or the least open snapshot, is told
abbrev pub IsStartCode : StartFault → Code → Info → Type 0
IsStartCode start.Failed said info = said ≡ code.Failed
IsStartCode start.WrongProfile said info = said ≡ code.WrongProfile
IsStartCode start.JobBusy said info = said ≡ code.JobBusy
IsStartCode start.NothingToDo said info = said ≡ code.NothingToDo
IsStartCode (start.NotYet last) said info = (said ≡ code.NotYet) × (info.a ≡ last)
IsStartCode (start.InUse oldest) said info = (said ≡ code.InUse) × (info.a ≡ oldest)
IsStartCode start.StatusFull said info = said ≡ code.StatusFull
IsStartCode start.ArchiveFull said info = said ≡ code.ArchiveFull
IsStartCode start.HeapFull said info = said ≡ code.HeapFull
IsStartCode start.NoMemory said info = said ≡ code.NoMemory
IsStartCode start.NotGrowable said info = said ≡ code.NotGrowable

-- what a step of a group did, and how many commits are published
abbrev pub told_did : Did → Info
told_did did.Idle = record { a = 0; b = 0 }
told_did did.WroteExtent = record { a = 1; b = 0 }
told_did did.HeapSynced = record { a = 2; b = 0 }
told_did did.BodyWritten = record { a = 3; b = 0 }
told_did did.BodySynced = record { a = 4; b = 0 }
told_did did.GateWritten = record { a = 5; b = 0 }
told_did (did.Published count) = record { a = 6; b = count }
told_did did.GateClosed = record { a = 13; b = 0 }

-- what a step of a job did
abbrev pub job_number : JobDid → ℕ
job_number job.Idle = 0
job_number job.WroteRun = 1
job_number job.RunSynced = 2
job_number job.BodyWritten = 3
job_number job.BodySynced = 4
job_number job.GateWritten = 5
job_number job.JobDone = 6
job_number job.WroteExtent = 7
job_number job.HeapSynced = 8
job_number job.WroteZeros = 9
job_number job.ZerosSynced = 10
job_number job.WroteEntry = 12
job_number job.GateClosed = 13
job_number job.WroteRoll = 14
job_number job.RollSynced = 15
job_number job.RootWritten = 16
job_number job.RootSynced = 17
job_number job.TurnWritten = 18

-- what a call on a handle answers: by the number of a code that the engine says, or that there is none
abbrev pub AnswersOn : (Engine → Code → Type 0) → Option Engine → ℤ → Type 0
AnswersOn Says None number = number ≡ code_number code.Closed
AnswersOn Says (Some e) number = (said : Code) × (number ≡ code_number said) × Says e said
