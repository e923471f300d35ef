-- Views answer by the history of their moment, and go on to.
use Rattle.std.specs.Prelude.{ℕ, ◌≡◌, Bool, Option, Result}
use Rattle.std.specs.declared.alloc.Global.{Global}
use Rattle.std.specs.declared.vec.Vec.{Vec}
use Rattle.history.specs.declared.key.Key.{Key}
use Rattle.history.specs.declared.time.Version.{Version}
use Rattle.history.specs.Answers as answers
use Rattle.history.specs.Histories.{History}
use Rattle.history.specs.Machine.{Machine}
use Rattle.law_image.specs.Values.{Value}
use Rattle.snapshot.specs.Txn.{TxnValue}
use Rattle.timequery.specs.View.{ViewValue}
use Rattle.timequery.specs.declared.fault.QueryFault.{QueryFault}
use Rattle.group.specs.Tickets.{TicketValue}
use Rattle.group.specs.declared.answers.BeginFault.{BeginFault}
use Rattle.group.specs.declared.answers.PumpFault.{PumpFault}
use Rattle.group.specs.declared.answers.Redeemed.{Redeemed}
use Rattle.group.specs.declared.answers.Submitted.{Submitted}
use Rattle.group.specs.declared.answers.SubmitFault.{SubmitFault}
use Rattle.store.specs.declared.job.StartFault.{StartFault}
use Rattle.any_store.specs.declared.steps.Did.{Did}
use Rattle.any_store.specs.declared.steps.JobDid.{JobDid}
use Rattle.any_store.specs.Values.{StoreValue, commits_of}
use Rattle.any_store.specs.Calls as stores
use Rattle.any_store.specs.Queries as queries
use Rattle.any_store.specs.Jobs.{StartsArchive, StartsReclaim, StartsFloor, StartsGrowth, PumpsJob}
use Rattle.law_refinement.specs.Homes.{IsSure, ViewStands}
use Rattle.law_refinement.specs.Laws.{SaysAt, SaysBetween, SaysScanAt, SaysScanBetween}
use Rattle.law_any_store.specs.Standing.{Stands, ViewReads, GoesOn}

-- a view is one of what is published, and its runs are there
abbrev pub ViewIsOfHistory : Type 0
ViewIsOfHistory =
    (tells : Bool) (v : StoreValue) (view : ViewValue) (m : Machine Value) → Stands tells v m → queries.IsViewOf v view
    → ViewStands view m.published m.floors × ViewReads tells v view m.published m.floors

-- they go on to be there
abbrev pub ViewGoesOn : Type 0
ViewGoesOn =
    (tells : Bool) (old new : StoreValue) (view : ViewValue) (h : History Value) (floors : ℕ → ℕ) → ViewReads tells old view h floors → GoesOn tells old new
    → ViewReads tells new view h floors

-- so it goes on answering by that history
abbrev pub AtIsAnswered : Type 0
AtIsAnswered =
    (tells : Bool) (v new : StoreValue) (m : Machine Value) (view : ViewValue) (h : History Value) (floors : ℕ
    → ℕ) (key : Key) (time : ℕ) (answer : Result (Option Value) QueryFault)
    → Stands tells v m → ViewStands view h floors → ViewReads tells v view h floors → queries.AnswersAtView tells v view key time answer new
    → SaysAt (IsSure tells view.reclaimed time) (answers.at_answer h floors key time) answer

-- so are scans of a relation at a time
abbrev pub ScanAtIsAnswered : Type 0
ScanAtIsAnswered =
    (tells : Bool) (v new : StoreValue) (m : Machine Value) (view : ViewValue) (h : History Value) (floors : ℕ
    → ℕ) (relation time : ℕ) (answer : Result (Vec (ℕ × Value) Global) QueryFault)
    → Stands tells v m → ViewStands view h floors → ViewReads tells v view h floors → queries.AnswersScanAt tells v view relation time answer new
    → SaysScanAt (IsSure tells view.reclaimed time) h floors relation time answer

-- so are queries of a key from a to b
abbrev pub BetweenIsAnswered : Type 0
BetweenIsAnswered =
    (tells : Bool) (v new : StoreValue) (m : Machine Value) (view : ViewValue) (h : History Value) (floors : ℕ
    → ℕ) (key : Key) (a b : ℕ) (answer : Result (Vec (Version Value) Global) QueryFault)
    → Stands tells v m → ViewStands view h floors → ViewReads tells v view h floors → queries.AnswersRows tells v view key a b answer new
    → SaysBetween (IsSure tells view.reclaimed a) h floors key a b answer

-- so are scans of a relation from a to b
abbrev pub ScanBetweenIsAnswered : Type 0
ScanBetweenIsAnswered =
    (tells : Bool) (v new : StoreValue) (m : Machine Value) (view : ViewValue) (h : History Value) (floors : ℕ
    → ℕ) (relation a b : ℕ) (answer : Result (Vec (ℕ × Version Value) Global) QueryFault)
    → Stands tells v m → ViewStands view h floors → ViewReads tells v view h floors → queries.AnswersScanRows tells v view relation a b answer new
    → SaysScanBetween (IsSure tells view.reclaimed a) h floors relation a b answer

-- ---- what a query leaves

-- a query changes nothing of what the store stands for or has in memory, and its views go on
pub record IsKept (tells : Bool) (old new : StoreValue) (m : Machine Value) : Type 0 where
  pub stands : Stands tells new m
  pub goes : GoesOn tells old new
  pub commits : commits_of new ≡ commits_of old

-- so it is of a query of a key at a time
abbrev pub AtStands : Type 0
AtStands =
    (tells : Bool) (v new : StoreValue) (m : Machine Value) (view : ViewValue) (key : Key) (time : ℕ) (answer : Result (Option Value) QueryFault)
    → Stands tells v m → queries.AnswersAtView tells v view key time answer new → IsKept tells v new m

-- so it is of a scan of a relation at a time
abbrev pub ScanAtStands : Type 0
ScanAtStands =
    (tells : Bool) (v new : StoreValue) (m : Machine Value) (view : ViewValue) (relation time : ℕ) (answer : Result (Vec (ℕ × Value) Global) QueryFault)
    → Stands tells v m → queries.AnswersScanAt tells v view relation time answer new → IsKept tells v new m

-- so it is of a query of a key from a to b
abbrev pub BetweenStands : Type 0
BetweenStands =
    (tells : Bool) (v new : StoreValue) (m : Machine Value) (view : ViewValue) (key : Key) (a b : ℕ) (answer : Result (Vec (Version Value) Global) QueryFault)
    → Stands tells v m → queries.AnswersRows tells v view key a b answer new → IsKept tells v new m

-- so it is of a scan of a relation from a to b
abbrev pub ScanBetweenStands : Type 0
ScanBetweenStands =
    (tells : Bool) (v new : StoreValue) (m : Machine Value) (view : ViewValue) (relation a b : ℕ) (answer : Result (Vec (ℕ × Version Value) Global) QueryFault)
    → Stands tells v m → queries.AnswersScanRows tells v view relation a b answer new → IsKept tells v new m

-- ---- the other calls: views go on

-- views go on over a begin
abbrev pub BeginGoesOn : Type 0
BeginGoesOn =
    (tells : Bool) (old new : StoreValue) (answer : Result TxnValue BeginFault) → stores.Begins old answer new → GoesOn tells old new

-- and over an abort
abbrev pub AbortGoesOn : Type 0
AbortGoesOn = (tells : Bool) (old new : StoreValue) (txn : TxnValue) → stores.Aborts old txn new → GoesOn tells old new

-- and over a submit
abbrev pub SubmitGoesOn : Type 0
SubmitGoesOn =
    (tells : Bool) (old new : StoreValue) (txn : TxnValue) (label now : ℕ) (answer : Result Submitted SubmitFault) → stores.Submits old txn label now answer new
    → GoesOn tells old new

-- and over a redeem
abbrev pub RedeemGoesOn : Type 0
RedeemGoesOn =
    (tells : Bool) (old new : StoreValue) (ticket : TicketValue) (answer : Redeemed) → stores.Redeems old ticket answer new → GoesOn tells old new

-- and over a step of a group
abbrev pub PumpGoesOn : Type 0
PumpGoesOn =
    (tells : Bool) (old new : StoreValue) (answer : Result Did PumpFault) (m : Machine Value) → Stands tells old m → stores.Pumps tells old answer new
    → GoesOn tells old new

-- and over a step of a job
abbrev pub JobPumpGoesOn : Type 0
JobPumpGoesOn =
    (tells : Bool) (old new : StoreValue) (answer : Result JobDid PumpFault) (m : Machine Value) → Stands tells old m → PumpsJob tells old answer new
    → GoesOn tells old new

-- and over the start of an archive
abbrev pub ArchiveStartGoesOn : Type 0
ArchiveStartGoesOn =
    (tells : Bool) (old new : StoreValue) (upto : ℕ) (answer : Result (Unit {0}) StartFault) (m : Machine Value) → Stands tells old m
    → StartsArchive old upto answer new → GoesOn tells old new

-- and over the start of a reclaim
abbrev pub ReclaimStartGoesOn : Type 0
ReclaimStartGoesOn =
    (tells : Bool) (old new : StoreValue) (answer : Result (Unit {0}) StartFault) (m : Machine Value) → Stands tells old m → StartsReclaim old answer new
    → GoesOn tells old new

-- and over the start of a floor
abbrev pub FloorStartGoesOn : Type 0
FloorStartGoesOn =
    (tells : Bool) (old new : StoreValue) (scope : Option ℕ) (floor : ℕ) (answer : Result (Unit {0}) StartFault) (m : Machine Value) → Stands tells old m
    → StartsFloor old scope floor answer new → GoesOn tells old new

-- and over the start of a growth
abbrev pub GrowStartGoesOn : Type 0
GrowStartGoesOn =
    (tells : Bool) (old new : StoreValue) (answer : Result (Unit {0}) StartFault) (m : Machine Value) → Stands tells old m → StartsGrowth old answer new
    → GoesOn tells old new
