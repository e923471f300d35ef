-- The calls of a store are steps of the machine.
use Rattle.std.specs.Prelude.{ℕ, ◌≡◌, ◌≤◌, ◌==◌, ◌&&◌, nat_lt, List, [], ◌∷◌, length, Option, None, Some, Result, Ok, Err, if◌then◌else◌}
use Rattle.std.specs.declared.alloc.Global.{Global}
use Rattle.std.specs.declared.vec.Vec.{Vec}
use Rattle.history.specs.Floors.{Raising}
use Rattle.history.specs.declared.key.Key.{Key}
use Rattle.history.specs.declared.time.Version.{Version}
use Rattle.history.specs.Histories.{History, HasRisingTimes, last}
use Rattle.history.specs.Machine.{Machine, Gate, Shut, Due, MayBeOpen, OfGroup, OfFloor}
use Rattle.history.specs.Answers as answers
use Rattle.history.specs.Submissions as submissions
use Rattle.history.specs.Submissions.{Submission, Decision, commit_made}
use Rattle.history.specs.Steps.{Event, Step, Run, Began, BeginRefused, Aborted, Decided, Refused, GroupBegan, Published, FloorPublished, GateDue, GateWritten}
use Rattle.history.specs.Steps.{Broke, begun}
use Rattle.history.specs.Steps as steps
use Rattle.law_image.specs.Values.{Value, IsValue}
use Rattle.chains.specs.KeyWrites.{KeyWrites, forgotten}
use Rattle.snapshot.specs.Txn.{TxnValue}
use Rattle.group.specs.declared.answers.BeginFault.{BeginFault}
use Rattle.group.specs.declared.answers.BeginFault.TheVariants as fault
use Rattle.group.specs.CommitOrder as orders
use Rattle.group.specs.declared.answers.Redeemed.{Redeemed}
use Rattle.group.specs.declared.answers.Redeemed.TheVariants as redeemed
use Rattle.timequery.specs.declared.fault.QueryFault.{QueryFault}
use Rattle.timequery.specs.declared.fault.QueryFault.TheVariants as query
use Rattle.store.specs.declared.job.JobDid.{JobDid}
use Rattle.store.specs.declared.job.JobDid.TheVariants as job_did
use Rattle.group.specs.declared.answers.Submitted.{Submitted}
use Rattle.group.specs.declared.answers.Submitted.TheVariants as submitted
use Rattle.group.specs.declared.answers.SubmitFault.{SubmitFault}
use Rattle.group.specs.declared.answers.SubmitFault.TheVariants as refused
use Rattle.group.specs.Values.{TransactionsValue}
use Rattle.group.specs.Calls as calls
use Rattle.group.specs.declared.answers.Did.{Did}
use Rattle.group.specs.declared.answers.Did.TheVariants as did
use Rattle.group.specs.declared.answers.PumpFault.{PumpFault}
use Rattle.group.specs.declared.answers.PumpFault.TheVariants as pump
use Rattle.law_refinement.specs.Standing.{HasWrites, StandsInMemory}

-- what the machine does in a begin, by its answer
abbrev pub BeginsAs : Machine Value → Result TxnValue BeginFault → TransactionsValue → Type 0
BeginsAs m (Ok txn) new = Step IsValue m (Began txn.snapshot) (begun m) × StandsInMemory new (begun m)
BeginsAs m (Err fault.NoMemory) new = Step IsValue m (BeginRefused steps.NoMemory) m × StandsInMemory new m
BeginsAs m (Err fault.Failed) new = Step IsValue m (BeginRefused steps.Failed) m × StandsInMemory new m

-- ---- submits

-- what a transaction submits
abbrev pub submission_of : TxnValue → ℕ → ℕ → Submission Value
submission_of txn label now = record { snapshot = txn.snapshot; label = label; now = now; writes = txn.writes }

-- the machine's event, by the answer to an own transaction
abbrev pub event_of : Machine Value → Submission Value → Result Submitted SubmitFault → Event Value
event_of m s (Ok (submitted.ReadOnly snapshot)) = Decided s submissions.Reads
event_of m s (Ok (submitted.Queued ticket)) = Decided s (submissions.Queues (commit_made m s))
event_of m s (Err (refused.Conflict key)) = Decided s (submissions.Conflicts key)
event_of m s (Err refused.ClockEnd) = Decided s submissions.Ends
event_of m s (Err refused.HeapFull) = Refused s steps.NoRoom
event_of m s (Err refused.StatusFull) = Refused s steps.NoRoom
event_of m s (Err refused.NoMemory) = Refused s steps.NoMemory
event_of m s (Err refused.Failed) = Refused s steps.Failed
event_of m s (Err refused.Stranger) = Refused s steps.Failed

-- ---- steps of a group

-- a group begins in a step, where none stands and commits wait
abbrev pub begins_in : Machine Value → List (Event Value)
begins_in m = if (m.group == 0) && nat_lt 0 (length m.queue) then GroupBegan ∷ [] else []

-- a refused write of the gate may have opened it
abbrev pub breaks_in : Gate → List (Event Value)
breaks_in Shut = Broke ∷ []
breaks_in (Due OfGroup) = GateWritten OfGroup ∷ Broke ∷ []
breaks_in (Due OfFloor) = Broke ∷ []
breaks_in (MayBeOpen change) = Broke ∷ []

-- and what else a step is, by where the gate is and by its answer
abbrev pub ends_in : Gate → Result Did PumpFault → List (Event Value)
ends_in gate (Ok did.Idle) = []
ends_in gate (Ok did.WroteExtent) = []
ends_in gate (Ok did.HeapSynced) = []
ends_in gate (Ok did.BodyWritten) = []
ends_in gate (Ok did.BodySynced) = GateDue OfGroup ∷ []
ends_in gate (Ok did.GateWritten) = GateWritten OfGroup ∷ []
ends_in gate (Ok (did.Published count)) = Published count ∷ []
ends_in gate (Err pump.Busy) = []
ends_in gate (Err pump.NoMemory) = []
ends_in gate (Err pump.Failed) = breaks_in gate

-- ---- steps of a job

-- of a job's steps those of a floor's slot are the machine's, by the floor that it has in the making
abbrev pub floor_ends_in : JobDid → Raising → List (Event Value)
floor_ends_in job_did.Idle r = []
floor_ends_in job_did.WroteRun r = []
floor_ends_in job_did.RunSynced r = []
floor_ends_in job_did.WroteExtent r = []
floor_ends_in job_did.HeapSynced r = []
floor_ends_in job_did.WroteZeros r = []
floor_ends_in job_did.ZerosSynced r = []
floor_ends_in job_did.BodyWritten r = []
floor_ends_in job_did.BodySynced r = GateDue OfFloor ∷ []
floor_ends_in job_did.GateWritten r = GateWritten OfFloor ∷ []
floor_ends_in job_did.JobDone r = FloorPublished r ∷ []

-- the machine's events in such a step, if a floor is in the making
abbrev pub floor_ends : JobDid → Option Raising → List (Event Value)
floor_ends what None = []
floor_ends what (Some r) = floor_ends_in what r

-- a refused write of the gate may have opened it
abbrev pub job_breaks_in : Gate → List (Event Value)
job_breaks_in Shut = Broke ∷ []
job_breaks_in (Due OfGroup) = Broke ∷ []
job_breaks_in (Due OfFloor) = GateWritten OfFloor ∷ Broke ∷ []
job_breaks_in (MayBeOpen change) = Broke ∷ []

-- the machine's events in a step of a job, by its answer
abbrev pub job_ends_in : Machine Value → Result JobDid PumpFault → List (Event Value)
job_ends_in m (Ok what) = floor_ends what m.raising
job_ends_in m (Err pump.Busy) = []
job_ends_in m (Err pump.NoMemory) = []
job_ends_in m (Err pump.Failed) = job_breaks_in m.gate

-- ---- tickets and labels

-- a ticket is answered as the machine does, or it is a stranger's
abbrev pub RedeemsAs : answers.Redeemed → Redeemed → Type 0
RedeemsAs said (redeemed.Done time) = said ≡ answers.Done time
RedeemsAs said (redeemed.Waiting ticket) = said ≡ answers.Waiting
RedeemsAs said redeemed.InDoubt = said ≡ answers.InDoubt
RedeemsAs said redeemed.Stranger = Unit {0}

-- the times of a label that memory tells are those of the published history
abbrev pub TimesAreOfLabel : Type 0
TimesAreOfLabel =
    (v : TransactionsValue) (m : Machine Value) (label : ℕ) → StandsInMemory v m → orders.times_of label (calls.order_of v) ≡ answers.times_of m.published label

-- ---- queries

-- An answer to a query is that of the history; where something is found it is for sure where that is known. Or memory or a read was refused, or a run that is
-- not known was damaged, where the history has a value or none.
abbrev pub SaysAt : Type 0 → Result (Option Value) answers.QueryRefusal → Result (Option Value) QueryFault → Type 0
SaysAt Sure said (Ok value) = Sure → said ≡ Ok value
SaysAt Sure said (Err (query.BeforeKept floor)) = said ≡ Err (answers.BeforeKept floor)
SaysAt Sure said (Err (query.NotYet time)) = said ≡ Err (answers.NotYet time)
SaysAt Sure said (Err query.NoMemory) = (value : Option Value) × (said ≡ Ok value)
SaysAt Sure said (Err query.EmptyInterval) = ⊥
SaysAt Sure said (Err query.Device) = (value : Option Value) × (said ≡ Ok value)
SaysAt Sure said (Err (query.Damaged start)) = (¬ Sure) × ((value : Option Value) × (said ≡ Ok value))
SaysAt Sure said (Err query.NeedsDisk) = ⊥
SaysAt Sure said (Err query.Stranger) = ⊥

-- so it is of an answer that holds something, which is one that the history may give
abbrev pub Says : {T X : Type 0} → Type 0 → (T → X) → (Result X answers.QueryRefusal → Type 0) → Result T QueryFault → Type 0
Says Sure held Is (Ok found) = Sure → Is (Ok (held found))
Says Sure held Is (Err (query.BeforeKept floor)) = Is (Err (answers.BeforeKept floor))
Says Sure held Is (Err (query.NotYet time)) = Is (Err (answers.NotYet time))
Says Sure held Is (Err query.EmptyInterval) = Is (Err answers.EmptyInterval)
Says {T} {X} Sure held Is (Err query.NoMemory) = (found : X) × Is (Ok found)
Says {T} {X} Sure held Is (Err query.Device) = (found : X) × Is (Ok found)
Says {T} {X} Sure held Is (Err (query.Damaged start)) = (¬ Sure) × ((found : X) × Is (Ok found))
Says Sure held Is (Err query.NeedsDisk) = ⊥
Says Sure held Is (Err query.Stranger) = ⊥

-- so the values of a relation at a time, the rows of a key and those of a relation
abbrev pub SaysScanAt : Type 0 → History Value → (ℕ → ℕ) → ℕ → ℕ → Result (Vec (ℕ × Value) Global) QueryFault → Type 0
SaysScanAt Sure h floors relation time answer =
    Says Sure (λ (found : Vec (ℕ × Value) Global). found.items) (answers.IsScanAtAnswer h floors relation time) answer

-- an answer with the rows of a key from a to b is that of the history, where that is known
abbrev pub SaysBetween : Type 0 → History Value → (ℕ → ℕ) → Key → ℕ → ℕ → Result (Vec (Version Value) Global) QueryFault → Type 0
SaysBetween Sure h floors key a b answer =
    Says Sure (λ (rows : Vec (Version Value) Global). rows.items) (λ said. answers.between_answer h floors key a b ≡ said) answer

-- an answer with the rows of a relation from a to b is that of the history, where that is known
abbrev pub SaysScanBetween : Type 0 → History Value → (ℕ → ℕ) → ℕ → ℕ → ℕ → Result (Vec (ℕ × Version Value) Global) QueryFault → Type 0
SaysScanBetween Sure h floors relation a b answer =
    Says Sure (λ (rows : Vec (ℕ × Version Value) Global). rows.items) (answers.IsScanBetweenAnswer h floors relation a b) answer

-- ---- what a reclaim makes memory forget

-- memory that forgets what ended by a mark is that of the same history, from the mark on
abbrev pub ForgottenHolds : Type 0
ForgottenHolds =
    (floors : ℕ → ℕ) (reclaimed mark : ℕ) (versions : List KeyWrites) (h : History Value) → HasWrites floors reclaimed versions h → HasRisingTimes 0 h
    → reclaimed ≤ mark → mark ≤ last h
    → HasWrites floors mark (forgotten mark versions) h
