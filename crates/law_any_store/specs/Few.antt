-- No call makes more than one write or sync of the disk.
use Rattle.std.specs.Prelude.{ℕ, ◌≤◌, ◌+◌, Bool, Option, Result}
use Rattle.std.specs.declared.alloc.Global.{Global}
use Rattle.std.specs.declared.vec.Vec.{Vec}
use Rattle.history.specs.declared.key.Key.{Key}
use Rattle.history.specs.declared.time.Version.{Version}
use Rattle.law_image.specs.Values.{Value}
use Rattle.snapshot.specs.Txn.{TxnValue}
use Rattle.timequery.specs.View.{ViewValue}
use Rattle.timequery.specs.declared.fault.QueryFault.{QueryFault}
use Rattle.group.specs.Tickets.{TicketValue}
use Rattle.group.specs.declared.answers.BeginFault.{BeginFault}
use Rattle.group.specs.declared.answers.PumpFault.{PumpFault}
use Rattle.group.specs.declared.answers.Redeemed.{Redeemed}
use Rattle.group.specs.declared.answers.Submitted.{Submitted}
use Rattle.group.specs.declared.answers.SubmitFault.{SubmitFault}
use Rattle.store.specs.declared.job.StartFault.{StartFault}
use Rattle.any_store.specs.declared.steps.Did.{Did}
use Rattle.any_store.specs.declared.steps.JobDid.{JobDid}
use Rattle.any_store.specs.Values.{StoreValue, disk_of}
use Rattle.any_store.specs.Calls as stores
use Rattle.any_store.specs.Queries as queries
use Rattle.any_store.specs.Jobs.{StartsArchive, StartsReclaim, StartsFloor, StartsGrowth, PumpsJob}

-- at most one write or sync of the disk was made
abbrev pub MakesFew : StoreValue → StoreValue → Type 0
MakesFew old new = (disk_of new).made ≤ (disk_of old).made + 1

-- ---- transactions, tickets and groups

-- so it is of a begin
abbrev pub BeginMakesFew : Type 0
BeginMakesFew = (old new : StoreValue) (answer : Result TxnValue BeginFault) → stores.Begins old answer new → MakesFew old new

-- so it is of an abort
abbrev pub AbortMakesFew : Type 0
AbortMakesFew = (old new : StoreValue) (txn : TxnValue) → stores.Aborts old txn new → MakesFew old new

-- so it is of a submit
abbrev pub SubmitMakesFew : Type 0
SubmitMakesFew =
    (old new : StoreValue) (txn : TxnValue) (label now : ℕ) (answer : Result Submitted SubmitFault) → stores.Submits old txn label now answer new
    → MakesFew old new

-- so it is of a ticket that is shown
abbrev pub RedeemMakesFew : Type 0
RedeemMakesFew = (old new : StoreValue) (ticket : TicketValue) (answer : Redeemed) → stores.Redeems old ticket answer new → MakesFew old new

-- so it is of a step of a group
abbrev pub PumpMakesFew : Type 0
PumpMakesFew = (tells : Bool) (old new : StoreValue) (answer : Result Did PumpFault) → stores.Pumps tells old answer new → MakesFew old new

-- ---- jobs

-- so it is of the start of an archive
abbrev pub ArchiveStartMakesFew : Type 0
ArchiveStartMakesFew = (old new : StoreValue) (upto : ℕ) (answer : Result (Unit {0}) StartFault) → StartsArchive old upto answer new → MakesFew old new

-- so it is of that of a reclaim
abbrev pub ReclaimStartMakesFew : Type 0
ReclaimStartMakesFew = (old new : StoreValue) (answer : Result (Unit {0}) StartFault) → StartsReclaim old answer new → MakesFew old new

-- so it is of that of a floor
abbrev pub FloorStartMakesFew : Type 0
FloorStartMakesFew =
    (old new : StoreValue) (scope : Option ℕ) (floor : ℕ) (answer : Result (Unit {0}) StartFault) → StartsFloor old scope floor answer new → MakesFew old new

-- so it is of that of a growth
abbrev pub GrowStartMakesFew : Type 0
GrowStartMakesFew = (old new : StoreValue) (answer : Result (Unit {0}) StartFault) → StartsGrowth old answer new → MakesFew old new

-- so it is of a step of a job
abbrev pub JobPumpMakesFew : Type 0
JobPumpMakesFew = (tells : Bool) (old new : StoreValue) (answer : Result JobDid PumpFault) → PumpsJob tells old answer new → MakesFew old new

-- ---- queries

-- so it is of a query of a key at a time
abbrev pub AtMakesFew : Type 0
AtMakesFew =
    (tells : Bool) (v new : StoreValue) (view : ViewValue) (key : Key) (time : ℕ) (answer : Result (Option Value) QueryFault)
    → queries.AnswersAtView tells v view key time answer new → MakesFew v new

-- so it is of a scan of a relation at a time
abbrev pub ScanAtMakesFew : Type 0
ScanAtMakesFew =
    (tells : Bool) (v new : StoreValue) (view : ViewValue) (relation time : ℕ) (answer : Result (Vec (ℕ × Value) Global) QueryFault)
    → queries.AnswersScanAt tells v view relation time answer new → MakesFew v new

-- so it is of a query of a key from a to b
abbrev pub BetweenMakesFew : Type 0
BetweenMakesFew =
    (tells : Bool) (v new : StoreValue) (view : ViewValue) (key : Key) (a b : ℕ) (answer : Result (Vec (Version Value) Global) QueryFault)
    → queries.AnswersRows tells v view key a b answer new → MakesFew v new

-- so it is of a scan of a relation from a to b
abbrev pub ScanBetweenMakesFew : Type 0
ScanBetweenMakesFew =
    (tells : Bool) (v new : StoreValue) (view : ViewValue) (relation a b : ℕ) (answer : Result (Vec (ℕ × Version Value) Global) QueryFault)
    → queries.AnswersScanRows tells v view relation a b answer new → MakesFew v new

-- so it is where the times of a label are asked
abbrev pub TimesMakesFew : Type 0
TimesMakesFew =
    (tells : Bool) (v new : StoreValue) (label : ℕ) (answer : Result (Vec ℕ Global) QueryFault) → queries.AnswersTimes tells v label answer new → MakesFew v new
