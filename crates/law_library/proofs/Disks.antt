-- Calls that make no device call leave the disk as it was, in either layout.
use Rattle.std.proofs.Common.{◌≡◌, ℕ, Bool, true, false, Option, Some, None, Result, Ok, Err, MatchBool, MatchOption, ap}
use Rattle.snapshot.specs.Txn.{TxnValue}
use Rattle.status.specs.Growth.{next_piece}
use Rattle.status.specs.GrowthState.{GrowthState}
use Rattle.group.specs.Tickets.{TicketValue}
use Rattle.group.specs.declared.answers.BeginFault.{BeginFault}
use Rattle.group.specs.declared.answers.Redeemed.{Redeemed}
use Rattle.group.specs.declared.answers.Submitted.{Submitted}
use Rattle.group.specs.declared.answers.Submitted.TheVariants as submitted
use Rattle.group.specs.declared.answers.SubmitFault.{SubmitFault}
use Rattle.group.specs.declared.answers.SubmitFault.TheVariants as refused
use Rattle.commits.specs.Values.{is_own}
use Rattle.store.specs.Archives.{BeginsRun, refusal_now}
use Rattle.store.specs.Archives as archives
use Rattle.store.specs.Floors.{BeginsFloor, floor_refusal}
use Rattle.store.specs.Floors as raises
use Rattle.store.specs.Growths.{BeginsPiece, refusal_to_grow}
use Rattle.store.specs.Growths as growths
use Rattle.store.specs.Reclaims.{BeginsReclaim, reclaim_refusal}
use Rattle.store.specs.Reclaims as reclaims
use Rattle.store.specs.Values as slots
use Rattle.store.specs.declared.job.StartFault.{StartFault}
use Rattle.log_store.specs.Archives as log_archives
use Rattle.log_store.specs.Jobs as log_jobs
use Rattle.log_store.specs.Reclaims as log_reclaims
use Rattle.log_store.specs.Submits as submits
use Rattle.log_store.specs.Values.{LogStoreValue}
use Rattle.log_store.specs.declared.job.StartFault as log_starts
use Rattle.any_store.specs.declared.engine.Engine.TheVariants.{Slots, Log}
use Rattle.any_store.specs.Values.{StoreValue, disk_of}
use Rattle.any_store.specs.Calls as stores
use Rattle.any_store.specs.Jobs.{StartsArchive, StartsReclaim, StartsFloor, StartsGrowth, BeginsNone}

-- ---- transactions and tickets

pub begin-disk : (v v' : StoreValue) (r : Result TxnValue BeginFault) → stores.Begins v r v' → disk_of v' ≡ disk_of v
begin-disk (Slots s) (Slots s') r begins = begins.rest.disk
begin-disk (Slots s) (Log l') r begins = absurd begins
begin-disk (Log l) (Slots s') r begins = absurd begins
begin-disk (Log l) (Log l') r begins = ap (λ (x : LogStoreValue). x.disk) begins.new_is

pub abort-disk : (v v' : StoreValue) (t : TxnValue) → stores.Aborts v t v' → disk_of v' ≡ disk_of v
abort-disk (Slots s) (Slots s') t aborts = aborts.rest.disk
abort-disk (Slots s) (Log l') t aborts = absurd aborts
abort-disk (Log l) (Slots s') t aborts = absurd aborts
abort-disk (Log l) (Log l') t aborts = ap (λ (x : LogStoreValue). x.disk) aborts.new_is

pub redeem-disk : (v v' : StoreValue) (k : TicketValue) (r : Redeemed) → stores.Redeems v k r v' → disk_of v' ≡ disk_of v
redeem-disk (Slots s) (Slots s') k r redeems = redeems.rest.disk
redeem-disk (Slots s) (Log l') k r redeems = absurd redeems
redeem-disk (Log l) (Slots s') k r redeems = absurd redeems
redeem-disk (Log l) (Log l') k r redeems = ap (λ (x : LogStoreValue). x.disk) redeems.new_is

log-submit : (l l' : LogStoreValue) (t : TxnValue) (label now : ℕ) (r : Result Submitted SubmitFault) → submits.Submits l t label now r l' → l'.disk ≡ l.disk
log-submit l l' t label now r done = by-own (is_own l.commits t) done
  where
    over : LogStoreValue
    over = submits.spent l t.number

    by-answer : (a : Result Submitted SubmitFault) → submits.AnswersSubmit over t label now a l' → l'.disk ≡ l.disk
    by-answer (Ok (submitted.ReadOnly snapshot)) is = ap (λ (x : LogStoreValue). x.disk) is.2
    by-answer (Ok (submitted.Queued ticket)) is = ap (λ (x : LogStoreValue). x.disk) is.2
    by-answer (Err why) is = ap (λ (x : LogStoreValue). x.disk) is.1

    by-failed : (b : Bool) → MatchBool b ((r ≡ Err refused.Failed) × (l' ≡ over)) (submits.AnswersSubmit over t label now r l') → l'.disk ≡ l.disk
    by-failed true failed = ap (λ (x : LogStoreValue). x.disk) failed.1
    by-failed false is = by-answer r is

    by-own : (b : Bool) → MatchBool b (submits.SubmitsOwn over t label now r l') ((r ≡ Err refused.Stranger) × (l' ≡ l)) → l'.disk ≡ l.disk
    by-own true is = by-failed l.commits.failed is
    by-own false strange = ap (λ (x : LogStoreValue). x.disk) strange.1

pub submit-disk : (v v' : StoreValue) (t : TxnValue) (label now : ℕ) (r : Result Submitted SubmitFault) → stores.Submits v t label now r v'
    → disk_of v' ≡ disk_of v
submit-disk (Slots s) (Slots s') t label now r submits = submits.rest.disk
submit-disk (Slots s) (Log l') t label now r submits = absurd submits
submit-disk (Log l) (Slots s') t label now r submits = absurd submits
submit-disk (Log l) (Log l') t label now r submits = log-submit l l' t label now r submits

-- ---- jobs that begin, where the log is slots

slots-archive : (v v' : slots.StoreValue) (upto : ℕ) (r : Result (Unit {0}) StartFault) → archives.StartsArchive v upto r v' → v'.disk ≡ v.disk
slots-archive v v' upto r starts = by-refusal (refusal_now v upto) r starts
  where
    by-refusal : (o : Option StartFault) (r : Result (Unit {0}) StartFault) → MatchOption o (BeginsRun v upto r v') (λ why. (r ≡ Err why) × (v' ≡ v))
        → v'.disk ≡ v.disk
    by-refusal None (Ok u) begins = ap (λ (x : slots.StoreValue). x.disk) begins.2.new_is
    by-refusal None (Err why) refused = ap (λ (x : slots.StoreValue). x.disk) refused.1
    by-refusal (Some why) r refused = ap (λ (x : slots.StoreValue). x.disk) refused.1

slots-reclaim : (v v' : slots.StoreValue) (r : Result (Unit {0}) StartFault) → reclaims.StartsReclaim v r v' → v'.disk ≡ v.disk
slots-reclaim v v' r starts = by-refusal (reclaim_refusal v) r starts
  where
    by-refusal : (o : Option StartFault) (r : Result (Unit {0}) StartFault) → MatchOption o (BeginsReclaim v r v') (λ why. (r ≡ Err why) × (v' ≡ v))
        → v'.disk ≡ v.disk
    by-refusal None (Ok u) begins = ap (λ (x : slots.StoreValue). x.disk) begins.1.new_is
    by-refusal None (Err why) refused = ap (λ (x : slots.StoreValue). x.disk) refused.1
    by-refusal (Some why) r refused = ap (λ (x : slots.StoreValue). x.disk) refused.1

slots-floor : (v v' : slots.StoreValue) (scope : Option ℕ) (time : ℕ) (r : Result (Unit {0}) StartFault) → raises.StartsFloor v scope time r v'
    → v'.disk ≡ v.disk
slots-floor v v' scope time r starts = by-refusal (floor_refusal v scope time) r starts
  where
    by-refusal : (o : Option StartFault) (r : Result (Unit {0}) StartFault)
        → MatchOption o (BeginsFloor v scope time r v') (λ why. (r ≡ Err why) × (v' ≡ v)) → v'.disk ≡ v.disk
    by-refusal None (Ok u) begins = ap (λ (x : slots.StoreValue). x.disk) begins.1
    by-refusal None (Err why) refused = ap (λ (x : slots.StoreValue). x.disk) refused.2
    by-refusal (Some why) r refused = ap (λ (x : slots.StoreValue). x.disk) refused.1

slots-grow : (v v' : slots.StoreValue) (r : Result (Unit {0}) StartFault) → growths.StartsGrowth v r v' → v'.disk ≡ v.disk
slots-grow v v' r starts = by-refusal (refusal_to_grow v) starts
  where
    by-piece : (o : Option GrowthState) → BeginsPiece v o r v' → v'.disk ≡ v.disk
    by-piece None refused = ap (λ (x : slots.StoreValue). x.disk) refused.1
    by-piece (Some growth) begins = ap (λ (x : slots.StoreValue). x.disk) begins.1

    by-refusal : (o : Option StartFault) → MatchOption o (BeginsPiece v (next_piece v.log) r v') (λ why. (r ≡ Err why) × (v' ≡ v)) → v'.disk ≡ v.disk
    by-refusal None begins = by-piece (next_piece v.log) begins
    by-refusal (Some why) refused = ap (λ (x : slots.StoreValue). x.disk) refused.1

-- ---- jobs that begin

-- where the log lies in the heap an archive may begin
log-archive : (l l' : LogStoreValue) (upto : ℕ) (said : Result (Unit {0}) log_starts.StartFault) → log_archives.StartsArchive l upto said l' → l'.disk ≡ l.disk
log-archive l l' upto said starts = by-refusal (log_archives.archive_refusal l upto) said starts
  where
    by-refusal : (o : Option log_starts.StartFault) (a : Result (Unit {0}) log_starts.StartFault)
        → MatchOption o (log_archives.BeginsRun l upto a l') (λ why. (a ≡ Err why) × (l' ≡ l)) → l'.disk ≡ l.disk
    by-refusal None (Ok done) begins = ap (λ (x : LogStoreValue). x.disk) begins.3.new_is
    by-refusal None (Err why) refused = ap (λ (x : LogStoreValue). x.disk) refused.1
    by-refusal (Some why) a refused = ap (λ (x : LogStoreValue). x.disk) refused.1

-- so may a reclaim
log-reclaim : (l l' : LogStoreValue) (said : Result (Unit {0}) log_starts.StartFault) → log_reclaims.StartsReclaim l said l' → l'.disk ≡ l.disk
log-reclaim l l' said starts = by-refusal (log_reclaims.reclaim_refusal l) said starts
  where
    by-refusal : (o : Option log_starts.StartFault) (a : Result (Unit {0}) log_starts.StartFault)
        → MatchOption o (log_reclaims.BeginsReclaim l a l') (λ why. (a ≡ Err why) × (l' ≡ l)) → l'.disk ≡ l.disk
    by-refusal None (Ok done) begins = ap (λ (x : LogStoreValue). x.disk) begins.new_is
    by-refusal None (Err why) refused = ap (λ (x : LogStoreValue). x.disk) refused.1
    by-refusal (Some why) a refused = ap (λ (x : LogStoreValue). x.disk) refused.1

-- so may a floor
log-floor : (l l' : LogStoreValue) (scope : Option ℕ) (time : ℕ) (said : Result (Unit {0}) log_starts.StartFault) → log_jobs.StartsFloor l scope time said l'
    → l'.disk ≡ l.disk
log-floor l l' scope time said starts = by-refusal (log_jobs.floor_refusal l scope time) starts
  where
    begins : (s : Option ℕ) (a : Result (Unit {0}) log_starts.StartFault) → log_jobs.BeginsFloor l s time a l' → l'.disk ≡ l.disk
    begins None a begun = absurd begun
    begins (Some relation) (Ok done) begun = ap (λ (x : LogStoreValue). x.disk) begun.1
    begins (Some relation) (Err why) begun = ap (λ (x : LogStoreValue). x.disk) begun.1

    by-refusal : (o : Option log_starts.StartFault) → MatchOption o (log_jobs.BeginsFloor l scope time said l') (λ why. (said ≡ Err why) × (l' ≡ l))
        → l'.disk ≡ l.disk
    by-refusal None begun = begins scope said begun
    by-refusal (Some why) refused = ap (λ (x : LogStoreValue). x.disk) refused.1

-- and no other job
none-begins : (l l' : LogStoreValue) (why : StartFault) (r : Result (Unit {0}) StartFault) → BeginsNone why r l l' → l'.disk ≡ l.disk
none-begins l l' why r none = ap (λ (x : LogStoreValue). x.disk) none.1

pub archive-disk : (v v' : StoreValue) (upto : ℕ) (r : Result (Unit {0}) StartFault) → StartsArchive v upto r v' → disk_of v' ≡ disk_of v
archive-disk (Slots s) (Slots s') upto r starts = slots-archive s s' upto r starts
archive-disk (Slots s) (Log l') upto r starts = absurd starts
archive-disk (Log l) (Slots s') upto r starts = absurd starts
archive-disk (Log l) (Log l') upto r starts = log-archive l l' upto starts.0 starts.1

pub reclaim-disk : (v v' : StoreValue) (r : Result (Unit {0}) StartFault) → StartsReclaim v r v' → disk_of v' ≡ disk_of v
reclaim-disk (Slots s) (Slots s') r starts = slots-reclaim s s' r starts
reclaim-disk (Slots s) (Log l') r starts = absurd starts
reclaim-disk (Log l) (Slots s') r starts = absurd starts
reclaim-disk (Log l) (Log l') r starts = log-reclaim l l' starts.0 starts.1

pub floor-disk : (v v' : StoreValue) (scope : Option ℕ) (time : ℕ) (r : Result (Unit {0}) StartFault) → StartsFloor v scope time r v' → disk_of v' ≡ disk_of v
floor-disk (Slots s) (Slots s') scope time r starts = slots-floor s s' scope time r starts
floor-disk (Slots s) (Log l') scope time r starts = absurd starts
floor-disk (Log l) (Slots s') scope time r starts = absurd starts
floor-disk (Log l) (Log l') scope time r starts = log-floor l l' scope time starts.0 starts.1

pub grow-disk : (v v' : StoreValue) (r : Result (Unit {0}) StartFault) → StartsGrowth v r v' → disk_of v' ≡ disk_of v
grow-disk (Slots s) (Slots s') r starts = slots-grow s s' r starts
grow-disk (Slots s) (Log l') r starts = absurd starts
grow-disk (Log l) (Slots s') r starts = absurd starts
grow-disk (Log l) (Log l') r starts = none-begins l l' _ r starts
