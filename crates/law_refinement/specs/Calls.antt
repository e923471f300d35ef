-- The calls of a store that stands for a state of the machine: each is one of its steps, with its answer, and the store stands for the state after it.
use Rattle.std.specs.Prelude.{ℕ, ◌≡◌, ◌<◌, ◌^◌, ◌++◌, Bool, true, IsTrue, IsSome, Option, Result, Ok, Err, MatchBool}
use Rattle.disk.specs.Areas.{AreSound}
use Rattle.history.specs.Floors.{Raising}
use Rattle.history.specs.FloorStarts as floors
use Rattle.history.specs.Machine.{Machine}
use Rattle.history.specs.Answers as answers
use Rattle.history.specs.Steps.{Step, Run, Began, BeginRefused, Aborted, FloorStarted, FloorRefused, begun, floor_started}
use Rattle.history.specs.Steps as steps
use Rattle.law_image.specs.Values.{Value, IsValue}
use Rattle.snapshot.specs.Txn.{TxnValue, AreTxnWrites}
use Rattle.group.specs.Tickets.{TicketValue}
use Rattle.group.specs.declared.answers.BeginFault.{BeginFault}
use Rattle.group.specs.declared.answers.BeginFault.TheVariants as fault
use Rattle.group.specs.declared.answers.Did.{Did}
use Rattle.group.specs.declared.answers.PumpFault.{PumpFault}
use Rattle.group.specs.declared.answers.PumpFault.TheVariants as pump
use Rattle.group.specs.declared.answers.Redeemed.{Redeemed}
use Rattle.group.specs.declared.answers.Submitted.{Submitted}
use Rattle.group.specs.declared.answers.SubmitFault.{SubmitFault}
use Rattle.group.specs.Values.{is_own}
use Rattle.store.specs.Calls as stores
use Rattle.store.specs.Values.{StoreValue}
use Rattle.store.specs.Pumps.{Pumps}
use Rattle.store.specs.Archives.{StartsArchive}
use Rattle.store.specs.Reclaims.{StartsReclaim}
use Rattle.store.specs.Floors.{StartsFloor}
use Rattle.store.specs.Growths.{StartsGrowth}
use Rattle.store.specs.Jobs.{PumpsJob}
use Rattle.store.specs.declared.job.JobDid.{JobDid}
use Rattle.store.specs.declared.job.StartFault.{StartFault}
use Rattle.store.specs.declared.job.StartFault.TheVariants as start
use Rattle.law_refinement.specs.Laws.{submission_of, event_of, begins_in, ends_in, job_ends_in, RedeemsAs}
use Rattle.law_refinement.specs.Stands.{Stands}

-- what a begin leads to, by its answer; S says that a store stands for a machine
abbrev pub BeginsTo : (StoreValue → Machine Value → Type 0) → Machine Value → Result TxnValue BeginFault → StoreValue → Type 0
BeginsTo S m (Ok txn) new = Step IsValue m (Began txn.snapshot) (begun m) × S new (begun m)
BeginsTo S m (Err fault.NoMemory) new = Step IsValue m (BeginRefused steps.NoMemory) m × S new m
BeginsTo S m (Err fault.Failed) new = Step IsValue m (BeginRefused steps.Failed) m × S new m

-- what a begin leads to, by its answer, where the store stands for the machine after it
abbrev pub BeginsOn : Bool → Machine Value → Result TxnValue BeginFault → StoreValue → Type 0
BeginsOn tells m answer new = BeginsTo (Stands tells) m answer new

-- a begin is a step of the machine, and the store stands for the machine after it
abbrev pub BeginStands : Type 0
BeginStands =
    (tells : Bool) (old new : StoreValue) (answer : Result TxnValue BeginFault) (m : Machine Value) → Stands tells old m → stores.Begins old answer new
    → BeginsOn tells m answer new

-- an own transaction is given up, and a stranger changes nothing
abbrev pub AbortStands : Type 0
AbortStands = (tells : Bool) (old new : StoreValue) (txn : TxnValue) (m : Machine Value) → Stands tells old m → stores.Aborts old txn new
    → MatchBool (is_own old.transactions txn) ((after : Machine Value) × Step IsValue m (Aborted txn.snapshot) after
    × Stands tells new after) (Stands tells new m)

-- a submit of an own transaction is a step of the machine, and a stranger's changes nothing
abbrev pub SubmitStands : Type 0
SubmitStands =
    (tells : Bool) (old new : StoreValue) (txn : TxnValue) (label now : ℕ) (answer : Result Submitted SubmitFault) (m : Machine Value) → Stands tells old m
    → AreTxnWrites txn.state txn.snapshot txn.writes → label < 2 ^ 64 → stores.Submits old txn label now answer new
    → MatchBool (is_own old.transactions txn) ((after : Machine Value) × Step IsValue m (event_of m (submission_of txn label now) answer) after
    × Stands tells new after) (Stands tells new m)

-- a disk that tells its bytes is sound at any time
abbrev pub PumpStands : Type 0
PumpStands =
    (tells : Bool) (old new : StoreValue) (answer : Result Did PumpFault) (m : Machine Value) → Stands tells old m → (IsTrue tells → AreSound new.disk.areas)
    → Pumps tells old answer new
    → MatchBool m.failed ((answer ≡ Err pump.Failed) × Stands tells new m) ((after : Machine Value) × Run IsValue m (begins_in m ++ ends_in m.gate answer) after
    × Stands tells new after)

-- a ticket is answered as the machine does, or as a stranger's, and nothing of the machine's changes
abbrev pub RedeemStands : Type 0
RedeemStands =
    (tells : Bool) (old new : StoreValue) (ticket : TicketValue) (answer : Redeemed) (m : Machine Value) → Stands tells old m
    → stores.Redeems old ticket answer new
    → RedeemsAs (answers.redeemed_by m ticket.time) answer × Stands tells new m

-- an archive begins, or it is refused: nothing of the machine's happens
abbrev pub ArchiveStartStands : Type 0
ArchiveStartStands = (tells : Bool) (old new : StoreValue) (upto : ℕ) (answer : Result (Unit {0}) StartFault) (m : Machine Value) → Stands tells old m
    → StartsArchive old upto answer new → Stands tells new m

-- so does a reclaim
abbrev pub ReclaimStartStands : Type 0
ReclaimStartStands = (tells : Bool) (old new : StoreValue) (answer : Result (Unit {0}) StartFault) (m : Machine Value) → Stands tells old m
    → StartsReclaim old answer new → Stands tells new m

-- a floor of one relation or of every relation
abbrev pub raising_to : Option ℕ → ℕ → Raising
raising_to scope floor = record { scope = scope; floor = floor }

-- A floor begins, or it is refused as the machine says; or another job runs, the log has no slot for it, or the store's profile no such floors. One of one
-- relation may want for memory.
abbrev pub StartsTo : (StoreValue → Machine Value → Type 0) → Machine Value → Raising → Result (Unit {0}) StartFault → StoreValue → Type 0
StartsTo S m r (Ok done) new = Step IsValue m (FloorStarted r) (floor_started m r) × S new (floor_started m r)
StartsTo S m r (Err start.NothingToDo) new = Step IsValue m (FloorRefused r floors.NothingToDo) m × S new m
StartsTo S m r (Err (start.NotYet time)) new = Step IsValue m (FloorRefused r (floors.NotYet time)) m × S new m
StartsTo S m r (Err (start.InUse snapshot)) new = Step IsValue m (FloorRefused r (floors.InUse snapshot)) m × S new m
StartsTo S m r (Err start.Failed) new = (m.failed ≡ true) × S new m
StartsTo S m r (Err start.WrongProfile) new = S new m
StartsTo S m r (Err start.JobBusy) new = S new m
StartsTo S m r (Err start.StatusFull) new = S new m
StartsTo S m r (Err start.ArchiveFull) new = ⊥
StartsTo S m r (Err start.HeapFull) new = ⊥
StartsTo S m r (Err start.NoMemory) new = IsSome r.scope × S new m
StartsTo S m r (Err start.NotGrowable) new = ⊥

-- what the start of a floor leads to, by its answer, where the store stands for the machine after it
abbrev pub StartsOn : Bool → Machine Value → Raising → Result (Unit {0}) StartFault → StoreValue → Type 0
StartsOn tells m r answer new = StartsTo (Stands tells) m r answer new

-- a floor begins or is refused so, and the store stands for the machine after it
abbrev pub FloorStartStands : Type 0
FloorStartStands =
    (tells : Bool) (old new : StoreValue) (scope : Option ℕ) (floor : ℕ) (answer : Result (Unit {0}) StartFault) (m : Machine Value) → Stands tells old m
    → StartsFloor old scope floor answer new → StartsOn tells m (raising_to scope floor) answer new

-- Of a job's steps a floor's alone are the machine's: its gate is due, is written, and the floor is raised. Where the device refuses one the machine has
-- failed.
abbrev pub JobPumpStands : Type 0
JobPumpStands =
    (tells : Bool) (old new : StoreValue) (answer : Result JobDid PumpFault) (m : Machine Value) → Stands tells old m → (IsTrue tells → AreSound new.disk.areas)
    → PumpsJob tells old answer new
    → MatchBool m.failed ((answer ≡ Err pump.Failed) × Stands tells new m) ((after : Machine Value) × Run IsValue m (job_ends_in m answer) after
    × Stands tells new after)

-- a growth begins, or it is refused: nothing of the machine's happens
abbrev pub GrowStartStands : Type 0
GrowStartStands = (tells : Bool) (old new : StoreValue) (answer : Result (Unit {0}) StartFault) (m : Machine Value) → Stands tells old m
    → StartsGrowth old answer new → Stands tells new m
