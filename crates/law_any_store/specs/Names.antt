-- The times of a label, and the names of commits that memory has.
use Rattle.std.specs.Prelude.{ℕ, ◌≡◌, Bool, Option, Result}
use Rattle.std.specs.declared.alloc.Global.{Global}
use Rattle.std.specs.declared.vec.Vec.{Vec}
use Rattle.history.specs.Answers as answers
use Rattle.history.specs.Machine.{Machine}
use Rattle.law_image.specs.Values.{Value}
use Rattle.snapshot.specs.Txn.{TxnValue}
use Rattle.group.specs.Tickets.{TicketValue}
use Rattle.group.specs.declared.answers.BeginFault.{BeginFault}
use Rattle.group.specs.declared.answers.PumpFault.{PumpFault}
use Rattle.group.specs.declared.answers.Redeemed.{Redeemed}
use Rattle.group.specs.declared.answers.Submitted.{Submitted}
use Rattle.group.specs.declared.answers.SubmitFault.{SubmitFault}
use Rattle.timequery.specs.declared.fault.QueryFault.{QueryFault}
use Rattle.store.specs.declared.job.StartFault.{StartFault}
use Rattle.any_store.specs.declared.steps.Did.{Did}
use Rattle.any_store.specs.declared.steps.JobDid.{JobDid}
use Rattle.any_store.specs.declared.engine.Engine.TheVariants.{Slots, Log}
use Rattle.any_store.specs.Values.{StoreValue, is_log, commits_of}
use Rattle.any_store.specs.Calls as stores
use Rattle.any_store.specs.Jobs.{StartsArchive, StartsReclaim, StartsFloor, StartsGrowth, PumpsJob}
use Rattle.any_store.specs.Queries as queries
use Rattle.law_log_queries.specs.Names.{SaysTimes}
use Rattle.law_any_store.specs.Standing.{Stands, GoesOn}
use Rattle.law_any_store.specs.Views.{IsKept}

-- The time up to which names of commits may have left memory. A store whose log is slots has them all.
abbrev pub names_from : StoreValue → ℕ
names_from (Slots s) = 0
names_from (Log l) = l.commits.reclaimed

-- ---- labels

-- The times of a label are those of the published history. Of a store whose log lies in the heap a part of them is read on the disk: they are told for sure
-- where it tells its bytes.
abbrev pub TimesAreOfLabel : Type 0
TimesAreOfLabel =
    (tells : Bool) (v new : StoreValue) (m : Machine Value) (label : ℕ) (answer : Result (Vec ℕ Global) QueryFault)
    → Stands tells v m → queries.AnswersTimes tells v label answer new → SaysTimes tells (is_log v) (names_from v) (answers.times_of m.published label) answer

-- where they are asked nothing changes of what the store stands for
abbrev pub TimesStand : Type 0
TimesStand =
    (tells : Bool) (v new : StoreValue) (m : Machine Value) (label : ℕ) (answer : Result (Vec ℕ Global) QueryFault)
    → Stands tells v m → queries.AnswersTimes tells v label answer new → IsKept tells v new m

-- ---- what memory keeps

-- no name has left memory
abbrev pub KeepsNames : StoreValue → StoreValue → Type 0
KeepsNames old new = names_from new ≡ names_from old

-- none does at a begin
abbrev pub BeginKeepsNames : Type 0
BeginKeepsNames = (old new : StoreValue) (answer : Result TxnValue BeginFault) → stores.Begins old answer new → KeepsNames old new

-- nor at an abort
abbrev pub AbortKeepsNames : Type 0
AbortKeepsNames = (old new : StoreValue) (txn : TxnValue) → stores.Aborts old txn new → KeepsNames old new

-- nor at a submit
abbrev pub SubmitKeepsNames : Type 0
SubmitKeepsNames =
    (old new : StoreValue) (txn : TxnValue) (label now : ℕ) (answer : Result Submitted SubmitFault) → stores.Submits old txn label now answer new
    → KeepsNames old new

-- nor where a ticket is shown
abbrev pub RedeemKeepsNames : Type 0
RedeemKeepsNames = (old new : StoreValue) (ticket : TicketValue) (answer : Redeemed) → stores.Redeems old ticket answer new → KeepsNames old new

-- nor in a step of a group
abbrev pub PumpKeepsNames : Type 0
PumpKeepsNames = (tells : Bool) (old new : StoreValue) (answer : Result Did PumpFault) → stores.Pumps tells old answer new → KeepsNames old new

-- nor at the start of an archive
abbrev pub ArchiveStartKeepsNames : Type 0
ArchiveStartKeepsNames = (old new : StoreValue) (upto : ℕ) (answer : Result (Unit {0}) StartFault) → StartsArchive old upto answer new → KeepsNames old new

-- nor at that of a reclaim
abbrev pub ReclaimStartKeepsNames : Type 0
ReclaimStartKeepsNames = (old new : StoreValue) (answer : Result (Unit {0}) StartFault) → StartsReclaim old answer new → KeepsNames old new

-- nor at that of a floor
abbrev pub FloorStartKeepsNames : Type 0
FloorStartKeepsNames =
    (old new : StoreValue) (scope : Option ℕ) (floor : ℕ) (answer : Result (Unit {0}) StartFault) → StartsFloor old scope floor answer new → KeepsNames old new

-- nor at that of a growth
abbrev pub GrowStartKeepsNames : Type 0
GrowStartKeepsNames = (old new : StoreValue) (answer : Result (Unit {0}) StartFault) → StartsGrowth old answer new → KeepsNames old new

-- nor in a step of a job
abbrev pub JobPumpKeepsNames : Type 0
JobPumpKeepsNames = (tells : Bool) (old new : StoreValue) (answer : Result JobDid PumpFault) → PumpsJob tells old answer new → KeepsNames old new

-- nor where the store has gone on with what it had in memory
abbrev pub SameKeepsNames : Type 0
SameKeepsNames = (tells : Bool) (old new : StoreValue) → GoesOn tells old new → commits_of new ≡ commits_of old → KeepsNames old new
