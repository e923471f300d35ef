-- The calls of a store that stands for a state of the machine: each is one of its steps, with its answer, and the store stands for the state after it.
use Rattle.std.specs.Prelude.{ℕ, ◌≡◌, ◌<◌, ◌^◌, true, Bool, IsTrue, List, [], ◌∷◌, ◌++◌, Option, None, Some, Result, Ok, Err, IsSome, MatchBool}
use Rattle.std.specs.Prelude.{if◌then◌else◌}
use Rattle.disk.specs.Areas.{AreSound}
use Rattle.history.specs.Answers as answers
use Rattle.history.specs.Floors.{Raising}
use Rattle.history.specs.FloorStarts as floors
use Rattle.history.specs.Machine.{Machine, OfGroup, OfFloor}
use Rattle.history.specs.Steps.{Event, Step, Run, Began, BeginRefused, Aborted, GateDue, GateWritten, Published, begun}
use Rattle.history.specs.Steps.{FloorStarted, FloorRefused, FloorPublished, floor_started}
use Rattle.history.specs.Steps as steps
use Rattle.law_image.specs.Values.{Value, IsValue}
use Rattle.snapshot.specs.Txn.{TxnValue, AreTxnWrites}
use Rattle.group.specs.Tickets.{TicketValue}
use Rattle.group.specs.declared.answers.BeginFault.{BeginFault}
use Rattle.group.specs.declared.answers.BeginFault.TheVariants as fault
use Rattle.group.specs.declared.answers.PumpFault.{PumpFault}
use Rattle.group.specs.declared.answers.PumpFault.TheVariants as pump
use Rattle.group.specs.declared.answers.Redeemed.{Redeemed}
use Rattle.group.specs.declared.answers.Submitted.{Submitted}
use Rattle.group.specs.declared.answers.SubmitFault.{SubmitFault}
use Rattle.store.specs.declared.job.StartFault.{StartFault}
use Rattle.store.specs.declared.job.StartFault.TheVariants as start
use Rattle.commits.specs.Values.{is_own}
use Rattle.any_store.specs.declared.steps.Did.{Did}
use Rattle.any_store.specs.declared.steps.Did.TheVariants as did
use Rattle.any_store.specs.declared.steps.JobDid.{JobDid}
use Rattle.any_store.specs.declared.steps.JobDid.TheVariants as job
use Rattle.any_store.specs.Values.{StoreValue, is_log, commits_of, disk_of}
use Rattle.any_store.specs.Calls as stores
use Rattle.any_store.specs.Jobs.{StartsArchive, StartsReclaim, StartsFloor, StartsGrowth, PumpsJob}
use Rattle.law_refinement.specs.Calls.{raising_to}
use Rattle.law_refinement.specs.Laws.{submission_of, event_of, RedeemsAs, begins_in, breaks_in, job_breaks_in}
use Rattle.law_any_store.specs.Standing.{Stands}

-- what a begin leads to, by its answer
abbrev pub BeginsOn : Bool → Machine Value → Result TxnValue BeginFault → StoreValue → Type 0
BeginsOn tells m (Ok txn) new = Step IsValue m (Began txn.snapshot) (begun m) × Stands tells new (begun m)
BeginsOn tells m (Err fault.NoMemory) new = Step IsValue m (BeginRefused steps.NoMemory) m × Stands tells new m
BeginsOn tells m (Err fault.Failed) new = Step IsValue m (BeginRefused steps.Failed) m × Stands tells new m

-- a begin is a step of the machine, and the store stands for the machine after it
abbrev pub BeginStands : Type 0
BeginStands =
    (tells : Bool) (old new : StoreValue) (answer : Result TxnValue BeginFault) (m : Machine Value) → Stands tells old m → stores.Begins old answer new
    → BeginsOn tells m answer new

-- the machine goes by this event to one that the store stands for
abbrev pub Goes : Bool → Machine Value → Event Value → StoreValue → Type 0
Goes tells m event new = (after : Machine Value) × Step IsValue m event after × Stands tells new after

-- an own transaction is given up, and a stranger changes nothing
abbrev pub AbortStands : Type 0
AbortStands = (tells : Bool) (old new : StoreValue) (txn : TxnValue) (m : Machine Value) → Stands tells old m → stores.Aborts old txn new
    → MatchBool (is_own (commits_of old) txn) (Goes tells m (Aborted txn.snapshot) new) (Stands tells new m)

-- a submit of an own transaction is a step of the machine, and a stranger's changes nothing
abbrev pub SubmitStands : Type 0
SubmitStands =
    (tells : Bool) (old new : StoreValue) (txn : TxnValue) (label now : ℕ) (answer : Result Submitted SubmitFault) (m : Machine Value) → Stands tells old m
    → AreTxnWrites txn.state txn.snapshot txn.writes → label < 2 ^ 64 → stores.Submits old txn label now answer new
    → MatchBool (is_own (commits_of old) txn) (Goes tells m (event_of m (submission_of txn label now) answer) new) (Stands tells new m)

-- The machine's events in a step of a group that did so much, but that one begins. Where the log lies in the heap the gate is due behind the heap's sync, and
-- where it is slots behind that of the slot.
abbrev pub group_ends : Bool → Did → List (Event Value)
group_ends in_heap did.Idle = []
group_ends in_heap did.WroteExtent = []
group_ends in_heap did.GateClosed = []
group_ends in_heap did.HeapSynced = if in_heap then GateDue OfGroup ∷ [] else []
group_ends in_heap did.BodyWritten = []
group_ends in_heap did.BodySynced = GateDue OfGroup ∷ []
group_ends in_heap did.GateWritten = GateWritten OfGroup ∷ []
group_ends in_heap (did.Published count) = Published count ∷ []

-- and in one that is refused: where the log lies in the heap a step that is put off begins no group
abbrev pub refused_in : Bool → Machine Value → PumpFault → List (Event Value)
refused_in in_heap m pump.Busy = if in_heap then [] else begins_in m
refused_in in_heap m pump.NoMemory = if in_heap then [] else begins_in m
refused_in in_heap m pump.Failed = begins_in m ++ breaks_in m.gate

-- by its answer, and by whether the log lies in the heap
abbrev pub pumped_in : Bool → Machine Value → Result Did PumpFault → List (Event Value)
pumped_in in_heap m (Ok what) = begins_in m ++ group_ends in_heap what
pumped_in in_heap m (Err why) = refused_in in_heap m why

-- the machine runs by these events to one that the store stands for
pub record RunsTo (tells : Bool) (m : Machine Value) (events : List (Event Value)) (new : StoreValue) : Type 0 where
  pub after : Machine Value
  pub run : Run IsValue m events after
  pub stands : Stands tells new after

-- a disk that tells its bytes is sound at any time
abbrev pub PumpStands : Type 0
PumpStands =
    (tells : Bool) (old new : StoreValue) (answer : Result Did PumpFault) (m : Machine Value) → Stands tells old m
    → (IsTrue tells → AreSound (disk_of new).areas) → stores.Pumps tells old answer new
    → MatchBool m.failed ((answer ≡ Err pump.Failed) × Stands tells new m) (RunsTo tells m (pumped_in (is_log old) m answer) new)

-- a ticket is answered as the machine does, or as a stranger's, and nothing of the machine's changes
abbrev pub RedeemStands : Type 0
RedeemStands =
    (tells : Bool) (old new : StoreValue) (ticket : TicketValue) (answer : Redeemed) (m : Machine Value) → Stands tells old m
    → stores.Redeems old ticket answer new
    → RedeemsAs (answers.redeemed_by m ticket.time) answer × Stands tells new m

-- ---- jobs

-- an archive begins, or it is refused: nothing of the machine's happens
abbrev pub ArchiveStartStands : Type 0
ArchiveStartStands = (tells : Bool) (old new : StoreValue) (upto : ℕ) (answer : Result (Unit {0}) StartFault) (m : Machine Value) → Stands tells old m
    → StartsArchive old upto answer new → Stands tells new m

-- so does a reclaim
abbrev pub ReclaimStartStands : Type 0
ReclaimStartStands = (tells : Bool) (old new : StoreValue) (answer : Result (Unit {0}) StartFault) (m : Machine Value) → Stands tells old m
    → StartsReclaim old answer new → Stands tells new m

-- A floor begins, or it is refused as the machine says; or another job runs, the log has no slot for it, the heap no room where the log lies in it, or the
-- store's profile no such floors. One of one relation may want for memory.
abbrev pub StartsOn : Bool → Bool → Machine Value → Raising → Result (Unit {0}) StartFault → StoreValue → Type 0
StartsOn tells in_heap m r (Ok done) new = Step IsValue m (FloorStarted r) (floor_started m r) × Stands tells new (floor_started m r)
StartsOn tells in_heap m r (Err start.NothingToDo) new = Step IsValue m (FloorRefused r floors.NothingToDo) m × Stands tells new m
StartsOn tells in_heap m r (Err (start.NotYet time)) new = Step IsValue m (FloorRefused r (floors.NotYet time)) m × Stands tells new m
StartsOn tells in_heap m r (Err (start.InUse snapshot)) new = Step IsValue m (FloorRefused r (floors.InUse snapshot)) m × Stands tells new m
StartsOn tells in_heap m r (Err start.Failed) new = (m.failed ≡ true) × Stands tells new m
StartsOn tells in_heap m r (Err start.WrongProfile) new = Stands tells new m
StartsOn tells in_heap m r (Err start.JobBusy) new = Stands tells new m
StartsOn tells in_heap m r (Err start.StatusFull) new = Stands tells new m
StartsOn tells in_heap m r (Err start.ArchiveFull) new = ⊥
StartsOn tells in_heap m r (Err start.HeapFull) new = IsTrue in_heap × Stands tells new m
StartsOn tells in_heap m r (Err start.NoMemory) new = IsSome r.scope × Stands tells new m
StartsOn tells in_heap m r (Err start.NotGrowable) new = ⊥

-- a floor begins or is refused so, and the store stands for the machine after it
abbrev pub FloorStartStands : Type 0
FloorStartStands =
    (tells : Bool) (old new : StoreValue) (scope : Option ℕ) (floor : ℕ) (answer : Result (Unit {0}) StartFault) (m : Machine Value) → Stands tells old m
    → StartsFloor old scope floor answer new → StartsOn tells (is_log old) m (raising_to scope floor) answer new

-- a growth begins, or it is refused: nothing of the machine's happens
abbrev pub GrowStartStands : Type 0
GrowStartStands = (tells : Bool) (old new : StoreValue) (answer : Result (Unit {0}) StartFault) (m : Machine Value) → Stands tells old m
    → StartsGrowth old answer new → Stands tells new m

-- the machine's events in a step of a job that raises a floor: its gate is due, is written, and the floor is raised
abbrev pub floor_ends_in : Bool → JobDid → Raising → List (Event Value)
floor_ends_in in_heap job.Idle r = []
floor_ends_in in_heap job.WroteRun r = []
floor_ends_in in_heap job.RunSynced r = []
floor_ends_in in_heap job.WroteExtent r = []
floor_ends_in in_heap job.HeapSynced r = if in_heap then GateDue OfFloor ∷ [] else []
floor_ends_in in_heap job.WroteZeros r = []
floor_ends_in in_heap job.ZerosSynced r = []
floor_ends_in in_heap job.BodyWritten r = []
floor_ends_in in_heap job.BodySynced r = GateDue OfFloor ∷ []
floor_ends_in in_heap job.WroteEntry r = []
floor_ends_in in_heap job.GateClosed r = []
floor_ends_in in_heap job.WroteRoll r = []
floor_ends_in in_heap job.RollSynced r = []
floor_ends_in in_heap job.RootWritten r = []
floor_ends_in in_heap job.RootSynced r = []
floor_ends_in in_heap job.TurnWritten r = []
floor_ends_in in_heap job.GateWritten r = GateWritten OfFloor ∷ []
floor_ends_in in_heap job.JobDone r = FloorPublished r ∷ []

-- in a step of any job, if it raises one
abbrev pub floor_ends : Bool → JobDid → Option Raising → List (Event Value)
floor_ends in_heap what None = []
floor_ends in_heap what (Some r) = floor_ends_in in_heap what r

-- by its answer
abbrev pub job_ends_in : Bool → Machine Value → Result JobDid PumpFault → List (Event Value)
job_ends_in in_heap m (Ok what) = floor_ends in_heap what m.raising
job_ends_in in_heap m (Err pump.Busy) = []
job_ends_in in_heap m (Err pump.NoMemory) = []
job_ends_in in_heap m (Err pump.Failed) = job_breaks_in m.gate

-- Of a job's steps a floor's alone are the machine's. Where the device refuses one the machine has failed.
abbrev pub JobPumpStands : Type 0
JobPumpStands =
    (tells : Bool) (old new : StoreValue) (answer : Result JobDid PumpFault) (m : Machine Value) → Stands tells old m
    → (IsTrue tells → AreSound (disk_of new).areas) → PumpsJob tells old answer new
    → MatchBool m.failed ((answer ≡ Err pump.Failed) × Stands tells new m) (RunsTo tells m (job_ends_in (is_log old) m answer) new)
