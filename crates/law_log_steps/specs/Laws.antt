-- The calls of a store whose log lies in the heap are steps of the machine.
use Rattle.std.specs.Prelude.{ℕ, ◌≡◌, ◌<◌, ◌≤◌, ◌^◌, Bool, true, false, IsTrue, IsSome, Option, None, Some, List, [], ◌∷◌, ◌++◌, Result, Ok, Err, MatchBool}
use Rattle.std.specs.Prelude.{if◌then◌else◌}
use Rattle.history.specs.Fronts.{OnFront}
use Rattle.history.specs.Histories.{History}
use Rattle.history.specs.Machine.{Machine, OfGroup, OfFloor, opened_by}
use Rattle.history.specs.Answers as answers
use Rattle.history.specs.Floors.{Raising}
use Rattle.history.specs.FloorStarts as floors
use Rattle.history.specs.Steps.{Event, Step, Run, Began, BeginRefused, Aborted, GateDue, GateWritten, Published, begun}
use Rattle.history.specs.Steps.{FloorStarted, FloorRefused, FloorPublished}
use Rattle.history.specs.Steps.{floor_started}
use Rattle.history.specs.Steps as steps
use Rattle.disk.specs.Areas.{Image, AreSound, LeavesImage, image_of, settled_on}
use Rattle.disk.specs.Calls.{DiskState}
use Rattle.law_image.specs.Values.{Value, IsValue}
use Rattle.law_image.specs.Reading.{Reading}
use Rattle.law_image.specs.StandsFor.{StandsFor}
use Rattle.snapshot.specs.Txn.{TxnValue, AreTxnWrites}
use Rattle.group.specs.Tickets.{TicketValue}
use Rattle.group.specs.declared.answers.BeginFault.{BeginFault}
use Rattle.group.specs.declared.answers.BeginFault.TheVariants as fault
use Rattle.group.specs.declared.answers.PumpFault.{PumpFault}
use Rattle.group.specs.declared.answers.PumpFault.TheVariants as pump
use Rattle.group.specs.declared.answers.Redeemed.{Redeemed}
use Rattle.group.specs.declared.answers.Submitted.{Submitted}
use Rattle.group.specs.declared.answers.SubmitFault.{SubmitFault}
use Rattle.commits.specs.Values.{is_own}
use Rattle.log_base.specs.Bases.{mark_of}
use Rattle.log_store.specs.Values.{LogStoreValue, IsInStep}
use Rattle.log_store.specs.Calls as calls
use Rattle.log_store.specs.Submits.{Submits}
use Rattle.log_store.specs.Pumps.{Pumps}
use Rattle.log_store.specs.Archives.{StartsArchive}
use Rattle.log_store.specs.Reclaims.{StartsReclaim}
use Rattle.log_store.specs.Jobs.{StartsFloor, PumpsJob}
use Rattle.log_store.specs.declared.job.JobDid.{JobDid}
use Rattle.log_store.specs.declared.job.JobDid.TheVariants as job_did
use Rattle.log_store.specs.declared.job.StartFault.{StartFault}
use Rattle.log_store.specs.declared.job.StartFault.TheVariants as start
use Rattle.log_store.specs.Opens.{Opens, OpenRefuses}
use Rattle.recovery.specs.declared.fault.OpenFault.{OpenFault}
use Rattle.law_log_opening.specs.Laws.{SaysNothing}
use Rattle.log_store.specs.declared.pump.Did.{Did}
use Rattle.log_store.specs.declared.pump.Did.TheVariants as did
use Rattle.log_recovery.specs.Opening.{ReadsRoots}
use Rattle.log_roots.specs.declared.roots.Roots.{Roots}
use Rattle.log_roots.specs.Roots.{root_of}
use Rattle.law_log_layout.specs.HeapLog.{HeapLog, IsLogOf, HoldsLog}
use Rattle.law_refinement.specs.Calls.{raising_to}
use Rattle.law_refinement.specs.Laws.{submission_of, event_of, RedeemsAs, begins_in, breaks_in, job_breaks_in}
use Rattle.law_commits.specs.Standing.{StandsInMemory}
use Rattle.law_log_store.specs.Calls.{IsFront}
use Rattle.law_log_store.specs.Opened.{IsOpenedOn}
use Rattle.law_log_store.specs.Standing.{IsImageOf}
use Rattle.law_log_steps.specs.Store.{IsStoreOf}

-- ---- opening, and stops

-- A store that is opened on an image all of which is synced, and whose memory stands for a machine opened on its history, and has forgotten no more than the
-- base of the log stands for, stands for that.
abbrev pub OpenedStands : Type 0
OpenedStands =
    (tells : Bool) (v : LogStoreValue) (image : Image) (l : HeapLog) (reading : Reading) (h : History Value) (floors : ℕ → ℕ)
    → v.disk.areas ≡ settled_on image → AreSound v.disk.areas → ReadsRoots image.status v.roots → IsLogOf v.roots.extents (root_of v.roots) l reading
    → HoldsLog l image.heap image.archive → StandsFor reading h floors → IsOpenedOn v l reading → v.commits.failed ≡ false
    → v.commits.reclaimed ≤ mark_of v.live.chains → StandsInMemory v.commits (opened_by 1024 h floors) → IsStoreOf tells v (opened_by 1024 h floors)

-- so a store that was opened on an image which stands for a history
abbrev pub OpenStands : Type 0
OpenStands =
    (tells : Bool) (old : DiskState) (mark : ℕ) (v : LogStoreValue) (roots : Roots) (h : History Value) (floors : ℕ → ℕ) → IsTrue tells → AreSound old.areas
    → IsImageOf roots (image_of old.areas) h floors → Opens tells old mark v → IsStoreOf tells v (opened_by 1024 h floors)

-- at every moment, of a store that works or has failed, whatever a stop may leave is a front
abbrev pub RestsOnFront : Type 0
RestsOnFront = (tells : Bool) (v : LogStoreValue) (m : Machine Value) (image : Image) → IsTrue tells → IsInStep v → IsStoreOf tells v m
    → LeavesImage v.disk.areas image
    → IsFront v image m.published m.queue m.floors

-- it is one of the machine: what is published, or, once the group's gate may be open, that with the whole group
abbrev pub LeavesFronts : Type 0
LeavesFronts = (tells : Bool) (v : LogStoreValue) (m : Machine Value) (image : Image) → IsTrue tells → IsInStep v → IsStoreOf tells v m
    → LeavesImage v.disk.areas image
    → OnFront (IsImageOf v.roots image) m

-- So a store that is opened on what a stop left stands for a machine that is opened on a front. A front has all that is published.
abbrev pub StopReopens : Type 0
StopReopens =
    (tells : Bool) (v : LogStoreValue) (m : Machine Value) (old : DiskState) (mark : ℕ) (again : LogStoreValue) → IsTrue tells → IsInStep v
    → IsStoreOf tells v m
    → LeavesImage v.disk.areas (image_of old.areas) → AreSound old.areas → Opens tells old mark again
    → OnFront (λ h floors. IsStoreOf tells again (opened_by 1024 h floors)) m

-- and no opening is refused for what is left
abbrev pub StopOpens : Type 0
StopOpens =
    (tells : Bool) (v : LogStoreValue) (m : Machine Value) (old new : DiskState) (why : OpenFault) → IsTrue tells → IsInStep v → IsStoreOf tells v m
    → LeavesImage v.disk.areas (image_of old.areas) → OpenRefuses tells old why new → SaysNothing why

-- ---- transactions and tickets

-- what a begin leads to, by its answer
abbrev pub BeginsTo : Bool → Machine Value → Result TxnValue BeginFault → LogStoreValue → Type 0
BeginsTo tells m (Ok txn) new = Step IsValue m (Began txn.snapshot) (begun m) × IsStoreOf tells new (begun m)
BeginsTo tells m (Err fault.NoMemory) new = Step IsValue m (BeginRefused steps.NoMemory) m × IsStoreOf tells new m
BeginsTo tells m (Err fault.Failed) new = Step IsValue m (BeginRefused steps.Failed) m × IsStoreOf tells new m

abbrev pub BeginStands : Type 0
BeginStands = (tells : Bool) (old new : LogStoreValue) (answer : Result TxnValue BeginFault) (m : Machine Value) → IsStoreOf tells old m
    → calls.Begins old answer new
    → BeginsTo tells m answer new

-- the machine goes by this event to one that the store stands for
abbrev pub Goes : Bool → LogStoreValue → Machine Value → Event Value → Type 0
Goes tells new m event = (after : Machine Value) × Step IsValue m event after × IsStoreOf tells new after

-- an own transaction is given up, and a stranger changes nothing
abbrev pub AbortStands : Type 0
AbortStands = (tells : Bool) (old new : LogStoreValue) (txn : TxnValue) (m : Machine Value) → IsStoreOf tells old m → calls.Aborts old txn new
    → MatchBool (is_own old.commits txn) (Goes tells new m (Aborted txn.snapshot)) (IsStoreOf tells new m)

-- a ticket is answered as the machine does, or it is a stranger's
abbrev pub RedeemStands : Type 0
RedeemStands = (tells : Bool) (old new : LogStoreValue) (ticket : TicketValue) (answer : Redeemed) (m : Machine Value) → IsStoreOf tells old m
    → calls.Redeems old ticket answer new
    → RedeemsAs (answers.redeemed_by m ticket.time) answer × IsStoreOf tells new m

-- a submit of an own transaction is a step of the machine, and a stranger changes nothing
abbrev pub SubmitStands : Type 0
SubmitStands =
    (tells : Bool) (old new : LogStoreValue) (txn : TxnValue) (label now : ℕ) (answer : Result Submitted SubmitFault) (m : Machine Value) → IsInStep old
    → IsStoreOf tells old m
    → AreTxnWrites txn.state txn.snapshot txn.writes → label < 2 ^ 64 → Submits old txn label now answer new
    → MatchBool (is_own old.commits txn) (Goes tells new m (event_of m (submission_of txn label now) answer)) (IsStoreOf tells new m)

-- ---- steps of a group

-- the machine's events in such a step, but that a group begins
abbrev pub group_ends : Did → List (Event Value)
group_ends did.Idle = []
group_ends did.WroteExtent = []
group_ends did.GateClosed = []
group_ends did.HeapSynced = GateDue OfGroup ∷ []
group_ends did.GateWritten = GateWritten OfGroup ∷ []
group_ends (did.Published count) = Published count ∷ []

-- The machine's events in a step, by its answer. Where it waits or there is no memory, and of a machine that has failed, there are none.
abbrev pub events_in : Machine Value → Result Did PumpFault → List (Event Value)
events_in m (Ok what) = begins_in m ++ group_ends what
events_in m (Err pump.Busy) = []
events_in m (Err pump.NoMemory) = []
events_in m (Err pump.Failed) = if m.failed then [] else begins_in m ++ breaks_in m.gate

-- the machine runs through these events to one that the store stands for
pub record Runs (tells : Bool) (m : Machine Value) (events : List (Event Value)) (new : LogStoreValue) : Type 0 where
  pub after : Machine Value
  pub run : Run IsValue m events after
  pub stands : IsStoreOf tells new after

-- ---- jobs

-- the machine's events in a step of a job that raises this floor: those of an archive or a reclaim are none of the machine's
abbrev pub floor_events : JobDid → Raising → List (Event Value)
floor_events job_did.Idle r = []
floor_events job_did.WroteRun r = []
floor_events job_did.RunSynced r = []
floor_events job_did.WroteEntry r = []
floor_events job_did.GateClosed r = []
floor_events job_did.HeapSynced r = GateDue OfFloor ∷ []
floor_events job_did.GateWritten r = GateWritten OfFloor ∷ []
floor_events job_did.WroteExtent r = []
floor_events job_did.WroteRoll r = []
floor_events job_did.RollSynced r = []
floor_events job_did.RootWritten r = []
floor_events job_did.RootSynced r = []
floor_events job_did.TurnWritten r = []
floor_events job_did.JobDone r = FloorPublished r ∷ []

abbrev pub floor_ends : JobDid → Option Raising → List (Event Value)
floor_ends what None = []
floor_ends what (Some r) = floor_events what r

-- The machine's events in a step of a job, by its answer. Where it waits or there is no memory, and of a machine that has failed, there are none.
abbrev pub job_events_in : Machine Value → Result JobDid PumpFault → List (Event Value)
job_events_in m (Ok what) = floor_ends what m.raising
job_events_in m (Err pump.Busy) = []
job_events_in m (Err pump.NoMemory) = []
job_events_in m (Err pump.Failed) = if m.failed then [] else job_breaks_in m.gate

-- so it is of every step of a job
abbrev pub JobPumpStands : Type 0
JobPumpStands =
    (tells : Bool) (old new : LogStoreValue) (answer : Result JobDid PumpFault) (m : Machine Value) → IsInStep old
    → (IsTrue tells → AreSound new.disk.areas) → IsStoreOf tells old m → PumpsJob tells old answer new → Runs tells m (job_events_in m answer) new

-- What the start of a floor leads to, by its answer: the machine may raise it, or refuses it; or the store has failed, floors are not of this kind, a job runs,
-- the heap has no room for its entry, or there is no memory.
abbrev pub StartsOn : Bool → Machine Value → Raising → Result (Unit {0}) StartFault → LogStoreValue → Type 0
StartsOn tells m r (Ok done) new = Step IsValue m (FloorStarted r) (floor_started m r) × IsStoreOf tells new (floor_started m r)
StartsOn tells m r (Err start.NothingToDo) new = Step IsValue m (FloorRefused r floors.NothingToDo) m × IsStoreOf tells new m
StartsOn tells m r (Err (start.NotYet time)) new = Step IsValue m (FloorRefused r (floors.NotYet time)) m × IsStoreOf tells new m
StartsOn tells m r (Err (start.InUse snapshot)) new = Step IsValue m (FloorRefused r (floors.InUse snapshot)) m × IsStoreOf tells new m
StartsOn tells m r (Err start.Failed) new = (m.failed ≡ true) × IsStoreOf tells new m
StartsOn tells m r (Err start.WrongProfile) new = (r.scope ≡ None) × IsStoreOf tells new m
StartsOn tells m r (Err start.JobBusy) new = IsStoreOf tells new m
StartsOn tells m r (Err start.HeapFull) new = IsStoreOf tells new m
StartsOn tells m r (Err start.ArchiveFull) new = ⊥
StartsOn tells m r (Err start.NoMemory) new = IsSome r.scope × IsStoreOf tells new m

-- so it is of every start
abbrev pub FloorStartStands : Type 0
FloorStartStands =
    (tells : Bool) (old new : LogStoreValue) (scope : Option ℕ) (floor : ℕ) (answer : Result (Unit {0}) StartFault) (m : Machine Value) → IsInStep old
    → IsStoreOf tells old m → StartsFloor old scope floor answer new → StartsOn tells m (raising_to scope floor) answer new

-- an archive begins, or it is refused: nothing of the machine's happens
abbrev pub ArchiveStartStands : Type 0
ArchiveStartStands =
    (tells : Bool) (old new : LogStoreValue) (upto : ℕ) (answer : Result (Unit {0}) StartFault) (m : Machine Value) → IsInStep old → IsStoreOf tells old m
    → StartsArchive old upto answer new → IsStoreOf tells new m

-- so does a reclaim
abbrev pub ReclaimStartStands : Type 0
ReclaimStartStands =
    (tells : Bool) (old new : LogStoreValue) (answer : Result (Unit {0}) StartFault) (m : Machine Value) → IsInStep old → IsStoreOf tells old m
    → StartsReclaim old answer new → IsStoreOf tells new m

-- ---- steps of a group, as runs

-- so it is of every step
abbrev pub PumpStands : Type 0
PumpStands =
    (tells : Bool) (old new : LogStoreValue) (answer : Result Did PumpFault) (m : Machine Value) → IsInStep old
    → (IsTrue tells → AreSound new.disk.areas) → IsStoreOf tells old m → Pumps tells old answer new → Runs tells m (events_in m answer) new
