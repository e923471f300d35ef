-- What the calls leave in memory, and what they tell of what they did.
use Rattle.std.specs.Prelude.{ℕ, ◌≡◌, ◌≤◌, true, Bool, [], ◌∷◌, ◌++◌, length, Option, None, Result, Ok, Err, MatchBool, if◌then◌else◌}
use Rattle.history.specs.Histories as histories
use Rattle.history.specs.Machine.{Machine, IsMachine}
use Rattle.law_image.specs.Values.{Value, IsValue}
use Rattle.snapshot.specs.OpenTable.{snapshot_of, with_opened}
use Rattle.snapshot.specs.Txn.{TxnValue}
use Rattle.group.specs.CommitOrder as orders
use Rattle.group.specs.Tickets.{TicketValue}
use Rattle.group.specs.declared.answers.BeginFault.{BeginFault}
use Rattle.group.specs.declared.answers.PumpFault.{PumpFault}
use Rattle.group.specs.declared.answers.Redeemed.{Redeemed}
use Rattle.group.specs.declared.answers.Redeemed.TheVariants as redeemed
use Rattle.group.specs.declared.answers.Submitted.{Submitted}
use Rattle.group.specs.declared.answers.Submitted.TheVariants as submitted
use Rattle.group.specs.declared.answers.SubmitFault.{SubmitFault}
use Rattle.group.specs.declared.answers.SubmitFault.TheVariants as refused
use Rattle.store.specs.declared.job.StartFault.{StartFault}
use Rattle.commits.specs.Values.{CommitsValue, is_own, over}
use Rattle.any_store.specs.declared.steps.Did.{Did}
use Rattle.any_store.specs.declared.steps.JobDid.{JobDid}
use Rattle.any_store.specs.Values.{StoreValue, commits_of}
use Rattle.any_store.specs.Calls as stores
use Rattle.any_store.specs.Jobs.{StartsArchive, StartsReclaim, StartsFloor, StartsGrowth, PumpsJob}
use Rattle.law_commits.specs.Standing.{StandsInMemory}
use Rattle.law_any_store.specs.Standing.{Stands}

-- ---- what memory stands for

-- what is in memory is the machine's state
abbrev pub MemoryStands : Type 0
MemoryStands = (tells : Bool) (v : StoreValue) (m : Machine Value) → Stands tells v m → StandsInMemory (commits_of v) m × IsMachine IsValue m

-- the last commit is that of the published history
abbrev pub LastIsPublished : Type 0
LastIsPublished = (tells : Bool) (v : StoreValue) (m : Machine Value) → Stands tells v m → stores.last v ≡ histories.last m.published

-- ---- what no step changes

-- the store's mark, its open transactions and the heads of its commit order are as they were
pub record Leaves (old new : CommitsValue) : Type 0 where
  pub mark : new.mark ≡ old.mark
  pub opened : new.opened ≡ old.opened
  pub heads : new.heads ≡ old.heads

-- a step of a group leaves memory so
abbrev pub PumpLeaves : Type 0
PumpLeaves = (tells : Bool) (old new : StoreValue) (answer : Result Did PumpFault) → stores.Pumps tells old answer new
    → Leaves (commits_of old) (commits_of new)

-- so does the start of an archive
abbrev pub ArchiveStartLeaves : Type 0
ArchiveStartLeaves =
    (old new : StoreValue) (upto : ℕ) (answer : Result (Unit {0}) StartFault) → StartsArchive old upto answer new → Leaves (commits_of old) (commits_of new)

-- so does the start of a reclaim
abbrev pub ReclaimStartLeaves : Type 0
ReclaimStartLeaves = (old new : StoreValue) (answer : Result (Unit {0}) StartFault) → StartsReclaim old answer new → Leaves (commits_of old) (commits_of new)

-- so does the start of a floor
abbrev pub FloorStartLeaves : Type 0
FloorStartLeaves =
    (old new : StoreValue) (scope : Option ℕ) (floor : ℕ) (answer : Result (Unit {0}) StartFault) → StartsFloor old scope floor answer new
    → Leaves (commits_of old) (commits_of new)

-- so does the start of a growth
abbrev pub GrowStartLeaves : Type 0
GrowStartLeaves = (old new : StoreValue) (answer : Result (Unit {0}) StartFault) → StartsGrowth old answer new → Leaves (commits_of old) (commits_of new)

-- so does a step of a job
abbrev pub JobPumpLeaves : Type 0
JobPumpLeaves =
    (tells : Bool) (old new : StoreValue) (answer : Result JobDid PumpFault) → PumpsJob tells old answer new → Leaves (commits_of old) (commits_of new)

-- ---- transactions

-- a new transaction reads what is published, and has a number that no other open one has
pub record IsBegun (old : CommitsValue) (txn : TxnValue) (new : CommitsValue) : Type 0 where
  pub mark : txn.mark ≡ old.mark
  pub state : txn.state ≡ old.versions
  pub writes : txn.writes ≡ []
  pub fresh : snapshot_of txn.number old.opened ≡ None
  pub within : txn.number ≤ length old.opened
  pub new_is : new ≡ record old { opened = with_opened old.opened txn.number txn.snapshot }

-- what a begin leaves in memory
abbrev pub LeftByBegin : CommitsValue → Result TxnValue BeginFault → CommitsValue → Type 0
LeftByBegin old (Ok txn) new = IsBegun old txn new
LeftByBegin old (Err why) new = new ≡ old

-- so it is of every begin
abbrev pub BeginLeaves : Type 0
BeginLeaves = (old new : StoreValue) (answer : Result TxnValue BeginFault) → stores.Begins old answer new → LeftByBegin (commits_of old) answer (commits_of new)

-- an own transaction that is given up is over
abbrev pub AbortLeaves : Type 0
AbortLeaves = (old new : StoreValue) (txn : TxnValue) → stores.Aborts old txn new
    → commits_of new ≡ (if is_own (commits_of old) txn then over (commits_of old) txn.number else commits_of old)

-- ---- submits

-- the head of a commit's time and label is the last, and is awaited
pub record JoinsOrder (old : CommitsValue) (label time : ℕ) (new : CommitsValue) : Type 0 where
  pub mark : new.mark ≡ old.mark
  pub opened : new.opened ≡ old.opened
  pub versions : new.versions ≡ old.versions
  pub heads : new.heads ≡ old.heads ++ record { time = time; label = label; awaited = true } ∷ []

-- What is in memory after a submit of an own transaction, which is over by then: what only reads tells its snapshot, a ticket has the store's mark.
abbrev pub LeftBySubmit : CommitsValue → TxnValue → ℕ → Result Submitted SubmitFault → CommitsValue → Type 0
LeftBySubmit v t label (Ok (submitted.ReadOnly snapshot)) new = (snapshot ≡ t.snapshot) × (new ≡ v)
LeftBySubmit v t label (Ok (submitted.Queued ticket)) new = (ticket.mark ≡ v.mark) × JoinsOrder v label ticket.time new
LeftBySubmit v t label (Err refused.Stranger) new = ⊥
LeftBySubmit v t label (Err why) new = new ≡ v

-- a submit leaves memory so, and a stranger is only spent
abbrev pub SubmitLeaves : Type 0
SubmitLeaves =
    (old new : StoreValue) (t : TxnValue) (label now : ℕ) (answer : Result Submitted SubmitFault) → stores.Submits old t label now answer new
    → MatchBool (is_own (commits_of old) t) (LeftBySubmit (over (commits_of old) t.number) t label answer (commits_of new))
    ((answer ≡ Err refused.Stranger) × (commits_of new ≡ commits_of old))

-- ---- tickets

-- What is in memory after a ticket was shown: Done tells of its time, whose head was awaited and is published, and is awaited no more. Who is a stranger has no
-- head that is awaited.
abbrev pub LeftByRedeem : CommitsValue → ℕ → TicketValue → Redeemed → CommitsValue → Type 0
LeftByRedeem old last k (redeemed.Done time) new =
    (time ≡ k.time) × (orders.is_awaited k.time old.heads ≡ true) × (k.time ≤ last) × (new ≡ record old { heads = orders.redeemed k.time old.heads })
LeftByRedeem old last k (redeemed.Waiting back) new = (back ≡ k) × (new ≡ old)
LeftByRedeem old last k redeemed.InDoubt new = new ≡ old
LeftByRedeem old last k redeemed.Stranger new = (new ≡ old) × (k.mark ≡ old.mark → orders.is_awaited k.time old.heads ≡ true → ⊥)

-- a redeem leaves memory so
abbrev pub RedeemLeaves : Type 0
RedeemLeaves =
    (old new : StoreValue) (k : TicketValue) (answer : Redeemed) → stores.Redeems old k answer new
    → LeftByRedeem (commits_of old) (stores.last old) k answer (commits_of new)
