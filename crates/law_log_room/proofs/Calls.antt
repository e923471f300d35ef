-- Each call leaves the room for a base that there was, and so no reclaim is refused for want of room after any calls.
use Rattle.std.proofs.Common.{◌≡◌, ◌≢◌, ℕ, Bool, true, false, List, [], ◌∷◌, None, Result, Ok, Err, refl, sym, subst}
use Rattle.std.specs.Prelude.{IsTrue, MatchBool}
use Rattle.history.specs.Histories.{History}
use Rattle.history.specs.Machine.{Machine}
use Rattle.law_image.specs.Values.{Value}
use Rattle.snapshot.specs.Txn.{TxnValue}
use Rattle.group.specs.declared.answers.Submitted.{Submitted}
use Rattle.group.specs.declared.answers.Submitted.TheVariants.{ReadOnly, Queued}
use Rattle.group.specs.declared.answers.SubmitFault.{SubmitFault}
use Rattle.group.specs.declared.answers.SubmitFault.TheVariants as refused
use Rattle.timequery.specs.Asked.{Finds, OrStranger, is_own as is_own_view}
use Rattle.timequery.specs.View.{ViewValue}
use Rattle.timequery.specs.declared.fault.QueryFault.{QueryFault}
use Rattle.timequery.specs.declared.fault.QueryFault.TheVariants as query
use Rattle.commits.specs.Values.{CommitsValue, is_own}
use Rattle.log_store.specs.Calls.{InMemory, with_commits}
use Rattle.log_room.specs.Bases.{has_base_room}
use Rattle.log_store.specs.Jobs.{base_parts}
use Rattle.log_store.specs.Queries.{in_log_store}
use Rattle.log_store.specs.Reclaims.{StartsReclaim}
use Rattle.log_store.specs.Submits.{AnswersSubmit, Submits, SubmitsOwn, spent, with_queued}
use Rattle.log_store.specs.Values.{LogStoreValue, IsInStep}
use Rattle.log_store.specs.declared.job.StartFault.{StartFault}
use Rattle.log_store.specs.declared.job.StartFault.TheVariants as fault
use Rattle.law_log_store.specs.Standing.{StandsOnHeap, StopsOnHeap}
use Rattle.law_log_queries.specs.Archive.{Stands}
use Rattle.law_log_queries.specs.Calls.{IsCall, LeadsTo, OfAbort, OfArchive, OfAt, OfBegin, OfBetween, OfFloor, OfJob, OfPump, OfReclaim, OfRedeem}
use Rattle.law_log_queries.specs.Calls.{OfScanAt, OfScanBetween, OfSubmit, OfTimes}
use Rattle.law_log_queries.proofs.Calls.{call-stands}
use Rattle.law_log_room.specs.Bases.{LeavesBaseRoom}
use Rattle.law_log_room.proofs.Leaving.{job-pump-left, keeps-left, pump-left, same-left}
use Rattle.law_log_room.proofs.Shares.{reclaim-has-room}
use Rattle.law_log_room.proofs.Starting.{archive-starts-left, floor-starts-left, reclaim-starts-left, room-left}

-- ---- memory

memory-left : (call : CommitsValue → CommitsValue → Type 0) (old new : LogStoreValue) → InMemory call old new → LeavesBaseRoom old → LeavesBaseRoom new
memory-left call old new is left =
    same-left (with_commits old new.commits) new is.new_is
    (keeps-left old (with_commits old new.commits) (record { reclaim = refl; job = refl; live = refl; named = refl; used = refl }) left)

spent-left : (old : LogStoreValue) (number : ℕ) → LeavesBaseRoom old → LeavesBaseRoom (spent old number)
spent-left old number left = keeps-left old (spent old number) (record { reclaim = refl; job = refl; live = refl; named = refl; used = refl }) left

queued-left : (v new : LogStoreValue) (txn : TxnValue) (label now : ℕ) (answer : Result Submitted SubmitFault) → AnswersSubmit v txn label now answer new
    → LeavesBaseRoom v → LeavesBaseRoom new
queued-left v new txn label now (Ok (ReadOnly snapshot)) so left = same-left v new so.2 left
queued-left v new txn label now (Ok (Queued ticket)) so left =
    same-left (with_queued v label ticket.time txn.writes) new so.2
    (keeps-left v (with_queued v label ticket.time txn.writes) (record { reclaim = refl; job = refl; live = refl; named = refl; used = refl }) left)
queued-left v new txn label now (Err why) so left = same-left v new so.1 left

submit-left : (old new : LogStoreValue) (txn : TxnValue) (label now : ℕ) (answer : Result Submitted SubmitFault) → Submits old txn label now answer new
    → LeavesBaseRoom old → LeavesBaseRoom new
submit-left old new txn label now answer is left = by-own (is_own old.commits txn) is
  where
    by-failed : (b : Bool)
        → MatchBool b ((answer ≡ Err refused.Failed) × (new ≡ spent old txn.number)) (AnswersSubmit (spent old txn.number) txn label now answer new)
        → LeavesBaseRoom new
    by-failed true failed = same-left (spent old txn.number) new failed.1 (spent-left old txn.number left)
    by-failed false so = queued-left (spent old txn.number) new txn label now answer so (spent-left old txn.number left)

    by-own : (b : Bool) → MatchBool b (SubmitsOwn (spent old txn.number) txn label now answer new) ((answer ≡ Err refused.Stranger) × (new ≡ old))
        → LeavesBaseRoom new
    by-own true so = by-failed old.commits.failed so
    by-own false strange = same-left old new strange.1 left

query-left : {T : Type 0} (tells : Bool) (v new : LogStoreValue) (view : ViewValue) (from : ℕ) (Refuses : QueryFault
    → Type 0) (Recent : T → Type 0) (OfHistory : History Value → T → Type 0) (Exact : Result T QueryFault → Type 0) (answer : Result T QueryFault)
    → OrStranger (is_own_view v.commits.mark v.archive view) v (Finds in_log_store tells v view from Refuses Recent OfHistory Exact) answer new
    → LeavesBaseRoom v → LeavesBaseRoom new
query-left tells v new view from Refuses Recent OfHistory Exact answer says left = by-own (is_own_view v.commits.mark v.archive view) says
  where
    by-own : (b : Bool)
        → MatchBool b (Finds in_log_store tells v view from Refuses Recent OfHistory Exact answer new) ((answer ≡ Err query.Stranger) × (new ≡ v))
        → LeavesBaseRoom new
    by-own true finds = subst LeavesBaseRoom (sym finds.asks.new_is) left
    by-own false strange = same-left v new strange.1 left

-- ---- all calls

pub call-leaves : (tells : Bool) (old new : LogStoreValue) (m : Machine Value) → IsTrue tells → IsInStep old → Stands tells old m → IsCall tells old new
    → LeavesBaseRoom old → LeavesBaseRoom new
call-leaves tells old new m tell step stands (OfBegin answer begins) left = memory-left _ old new begins left
call-leaves tells old new m tell step stands (OfAbort txn aborts) left = memory-left _ old new aborts left
call-leaves tells old new m tell step stands (OfRedeem ticket answer redeems) left = memory-left _ old new redeems left
call-leaves tells old new m tell step stands (OfSubmit txn label now answer are range submits) left = submit-left old new txn label now answer submits left
call-leaves tells old new m tell step stands (OfPump answer sound pumps) left = pump-left tells old new answer step pumps left
call-leaves tells old new m tell step stands (OfFloor scope floor answer starts) left =
    floor-starts-left tells old new m tell stands.store left scope floor answer starts
call-leaves tells old new m tell step stands (OfArchive upto answer starts) left =
    archive-starts-left tells old new m tell stands.store left upto answer starts
call-leaves tells old new m tell step stands (OfReclaim answer starts) left = reclaim-starts-left tells old new m tell stands.store left answer starts
call-leaves tells old new m tell step stands (OfJob answer sound pumps) left = job-pump-left tells old new answer step stands.store.marks pumps left
call-leaves tells old new m tell step stands (OfAt view key time answer says) left = query-left tells old new view time _ _ _ _ answer says left
call-leaves tells old new m tell step stands (OfScanAt view relation time answer says) left =
    query-left tells old new view time _ _ _ _ answer says left
call-leaves tells old new m tell step stands (OfBetween view key a b answer says) left = query-left tells old new view a _ _ _ _ answer says left
call-leaves tells old new m tell step stands (OfScanBetween view relation a b answer says) left =
    query-left tells old new view a _ _ _ _ answer says left
call-leaves tells old new m tell step stands (OfTimes label answer says) left =
    subst LeavesBaseRoom (sym says.new_is) left

-- ---- after any calls

-- a store that stands for a state of the machine, and leaves room
pub record Roomy (tells : Bool) (v : LogStoreValue) : Type 0 where
  pub machine : Machine Value
  pub stands : Stands tells v machine
  pub left : LeavesBaseRoom v

pub call-roomy : (tells : Bool) (old new : LogStoreValue) → IsTrue tells → IsInStep old → Roomy tells old → IsCall tells old new → Roomy tells new
call-roomy tells old new tell step is call =
    let goes = call-stands tells old new is.machine tell step is.stands call in
    record { machine = goes.after; stands = goes.stands; left = call-leaves tells old new is.machine tell step is.stands call is.left }

pub calls-roomy : (tells : Bool) (old now : LogStoreValue) (between : List LogStoreValue) → IsTrue tells → Roomy tells old → LeadsTo tells old between now
    → Roomy tells now
calls-roomy tells old now [] tell is leads = subst (λ (v : LogStoreValue). Roomy tells v) (sym leads) is
calls-roomy tells old now (next ∷ rest) tell is leads =
    calls-roomy tells next now rest tell (call-roomy tells old next tell leads.0 is leads.1) leads.2

pub roomy-reclaim : (tells : Bool) (v new : LogStoreValue) (answer : Result (Unit {0}) StartFault) → IsTrue tells → Roomy tells v
    → StartsReclaim v answer new → answer ≢ Err fault.HeapFull
roomy-reclaim tells v new answer tell is starts = reclaim-has-room tells v new is.machine answer tell is.stands.store is.left starts

pub never-full : (tells : Bool) (old now new : LogStoreValue) (between : List LogStoreValue) (m : Machine Value) (answer : Result (Unit {0}) StartFault)
    → IsTrue tells → Stands tells old m → LeavesBaseRoom old → LeadsTo tells old between now → StartsReclaim now answer new
    → answer ≢ Err fault.HeapFull
never-full tells old now new between m answer tell stands left leads starts =
    roomy-reclaim tells now new answer tell (calls-roomy tells old now between tell (record { machine = m; stands = stands; left = left }) leads) starts

-- one that works, where a base has room that names two rolls and two archives more
pub roomy-left : (tells : Bool) (v : LogStoreValue) (m : Machine Value) → IsTrue tells → Stands tells v m → v.commits.failed ≡ false → v.job ≡ None
    → v.reclaim ≡ None → IsTrue (has_base_room v.room (base_parts v)) → LeavesBaseRoom v
roomy-left tells v m tell stands works free none room =
    room-left tells v m stands.store
    (subst (λ (failed : Bool). MatchBool failed (StopsOnHeap v m.published m.queue m.floors) (StandsOnHeap v m.published m.queue m.floors)) works
    (stands.store.disk tell)) free none room
