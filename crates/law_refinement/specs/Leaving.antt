-- What the calls leave of a store's transactions, and what they tell of what they did.
use Rattle.std.specs.Prelude.{ℕ, ◌≡◌, ◌≤◌, ◌++◌, Bool, true, take, drop, Option, Result, Ok, Err}
use Rattle.history.specs.Machine.{Machine}
use Rattle.history.specs.Steps.{Step, Run}
use Rattle.history.specs.Submissions.{commit_made}
use Rattle.law_image.specs.Values.{Value, IsValue}
use Rattle.snapshot.specs.Txn.{TxnValue}
use Rattle.group.specs.CommitOrder as orders
use Rattle.group.specs.Tickets.{TicketValue}
use Rattle.group.specs.declared.answers.Did.{Did}
use Rattle.group.specs.declared.answers.Did.TheVariants as did
use Rattle.group.specs.declared.answers.PumpFault.{PumpFault}
use Rattle.group.specs.declared.answers.Redeemed.{Redeemed}
use Rattle.group.specs.declared.answers.Redeemed.TheVariants as redeemed
use Rattle.group.specs.declared.answers.Submitted.{Submitted}
use Rattle.group.specs.declared.answers.Submitted.TheVariants as submitted
use Rattle.group.specs.declared.answers.SubmitFault.{SubmitFault}
use Rattle.group.specs.declared.answers.SubmitFault.TheVariants as refused
use Rattle.group.specs.Values.{TransactionsValue}
use Rattle.group.specs.Calls as calls
use Rattle.group.specs.Submits.{JoinsQueue, SubmitsOwn}
use Rattle.store.specs.Values.{StoreValue}
use Rattle.store.specs.Pumps.{Pumps}
use Rattle.store.specs.Archives.{StartsArchive}
use Rattle.store.specs.Reclaims.{StartsReclaim}
use Rattle.store.specs.Floors.{StartsFloor}
use Rattle.store.specs.Growths.{StartsGrowth}
use Rattle.store.specs.Jobs.{PumpsJob}
use Rattle.store.specs.declared.job.JobDid.{JobDid}
use Rattle.store.specs.declared.job.StartFault.{StartFault}
use Rattle.law_refinement.specs.Laws.{submission_of, event_of, begins_in, ends_in}
use Rattle.law_refinement.specs.Standing.{StandsInMemory}

-- ---- what no step changes

-- the store's mark, its open transactions and the heads of its commit order are as they were
pub record Leaves (old new : TransactionsValue) : Type 0 where
  pub mark : new.mark ≡ old.mark
  pub opened : new.opened ≡ old.opened
  pub heads : new.heads ≡ old.heads

-- a step of a group leaves the transactions so
abbrev pub PumpLeaves : Type 0
PumpLeaves = (tells : Bool) (old new : StoreValue) (answer : Result Did PumpFault) → Pumps tells old answer new → Leaves old.transactions new.transactions

-- the start of an archive leaves the transactions so
abbrev pub ArchiveStartLeaves : Type 0
ArchiveStartLeaves =
    (old new : StoreValue) (upto : ℕ) (answer : Result (Unit {0}) StartFault) → StartsArchive old upto answer new → Leaves old.transactions new.transactions

-- the start of a reclaim leaves the transactions so
abbrev pub ReclaimStartLeaves : Type 0
ReclaimStartLeaves = (old new : StoreValue) (answer : Result (Unit {0}) StartFault) → StartsReclaim old answer new → Leaves old.transactions new.transactions

-- the start of a floor leaves the transactions so
abbrev pub FloorStartLeaves : Type 0
FloorStartLeaves =
    (old new : StoreValue) (scope : Option ℕ) (floor : ℕ) (answer : Result (Unit {0}) StartFault) → StartsFloor old scope floor answer new
    → Leaves old.transactions new.transactions

-- the start of a growth leaves the transactions so
abbrev pub GrowStartLeaves : Type 0
GrowStartLeaves = (old new : StoreValue) (answer : Result (Unit {0}) StartFault) → StartsGrowth old answer new → Leaves old.transactions new.transactions

-- a step of a job leaves the transactions so
abbrev pub JobPumpLeaves : Type 0
JobPumpLeaves =
    (tells : Bool) (old new : StoreValue) (answer : Result JobDid PumpFault) → PumpsJob tells old answer new → Leaves old.transactions new.transactions

-- ---- submits

-- The transactions after a submit of an own one, which is over by then: what only reads tells its snapshot, a ticket has the store's mark, and the head of its
-- time and label is the last.
abbrev pub LeftBySubmit : TransactionsValue → TxnValue → ℕ → Result Submitted SubmitFault → TransactionsValue → Type 0
LeftBySubmit v t label (Ok (submitted.ReadOnly snapshot)) new = (snapshot ≡ t.snapshot) × (new ≡ v)
LeftBySubmit v t label (Ok (submitted.Queued ticket)) new = (ticket.mark ≡ v.mark) × JoinsQueue v label ticket.time t.writes new
LeftBySubmit v t label (Err refused.Stranger) new = ⊥
LeftBySubmit v t label (Err why) new = new ≡ v

-- a submit of an own transaction leaves the transactions so
abbrev pub SubmitLeaves : Type 0
SubmitLeaves =
    (v new : TransactionsValue) (t : TxnValue) (label now : ℕ) (answer : Result Submitted SubmitFault) → SubmitsOwn v t label now answer new
    → LeftBySubmit v t label answer new

-- the time of a ticket is that of the machine's commit
abbrev pub TicketTells : Type 0
TicketTells =
    (v new : TransactionsValue) (m after : Machine Value) (t : TxnValue) (label now : ℕ) (ticket : TicketValue) → JoinsQueue v label ticket.time t.writes new
    → StandsInMemory new after
    → Step IsValue m (event_of m (submission_of t label now) (Ok (submitted.Queued ticket))) after → ticket.time
    ≡ (commit_made m (submission_of t label now)).time

-- ---- tickets

-- The transactions after a ticket was shown: Done tells of its time, whose head was awaited and is published, and is awaited no more. Who is a stranger has no
-- head that is awaited.
abbrev pub LeftByRedeem : TransactionsValue → TicketValue → Redeemed → TransactionsValue → Type 0
LeftByRedeem old k (redeemed.Done time) new =
    (time ≡ k.time) × (orders.is_awaited k.time old.heads ≡ true) × (k.time ≤ calls.last old) × (new ≡ record old { heads = orders.redeemed k.time old.heads })
LeftByRedeem old k (redeemed.Waiting back) new = (back ≡ k) × (new ≡ old)
LeftByRedeem old k redeemed.InDoubt new = new ≡ old
LeftByRedeem old k redeemed.Stranger new = (new ≡ old) × (k.mark ≡ old.mark → orders.is_awaited k.time old.heads ≡ true → ⊥)

-- a redeem leaves the transactions so
abbrev pub RedeemLeaves : Type 0
RedeemLeaves = (old new : TransactionsValue) (k : TicketValue) (answer : Redeemed) → calls.Redeems old k answer new → LeftByRedeem old k answer new

-- ---- steps of a group

-- how many commits a step of a group published
abbrev pub count_in : Result Did PumpFault → ℕ
count_in (Ok (did.Published count)) = count
count_in (Ok did.Idle) = 0
count_in (Ok did.WroteExtent) = 0
count_in (Ok did.HeapSynced) = 0
count_in (Ok did.BodyWritten) = 0
count_in (Ok did.BodySynced) = 0
count_in (Ok did.GateWritten) = 0
count_in (Err why) = 0

-- so many from the front of the queue are published, and nothing else is
pub record Publishes (m n : Machine Value) (count : ℕ) : Type 0 where
  pub published : n.published ≡ m.published ++ take count m.queue
  pub queue : n.queue ≡ drop count m.queue
  pub floors : n.floors ≡ m.floors

-- a step of a group publishes as many commits as its answer tells, and nothing else
abbrev pub PumpPublishes : Type 0
PumpPublishes = (m n : Machine Value) (answer : Result Did PumpFault) → Run IsValue m (begins_in m ++ ends_in m.gate answer) n → Publishes m n (count_in answer)
