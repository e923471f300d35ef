-- The times of a label, in either layout, and the names that memory has.
use Rattle.std.proofs.Common.{◌≡◌, ℕ, Bool, true, false, Option, Result, Ok, Err, refl, ap, sym, subst, ◌∙◌}
use Rattle.std.specs.declared.alloc.Global.{Global}
use Rattle.std.specs.declared.vec.Vec.{Vec}
use Rattle.history.specs.Answers as answers
use Rattle.history.specs.Machine.{Machine}
use Rattle.law_image.specs.Values.{Value}
use Rattle.snapshot.specs.Txn.{TxnValue}
use Rattle.group.specs.Tickets.{TicketValue}
use Rattle.group.specs.declared.answers.BeginFault.{BeginFault}
use Rattle.group.specs.declared.answers.PumpFault.{PumpFault}
use Rattle.group.specs.declared.answers.Redeemed.{Redeemed}
use Rattle.group.specs.declared.answers.Submitted.{Submitted}
use Rattle.group.specs.declared.answers.SubmitFault.{SubmitFault}
use Rattle.archive.specs.Searches.{archive_of}
use Rattle.commits.specs.Values.{CommitsValue}
use Rattle.store.specs.declared.job.StartFault.{StartFault}
use Rattle.timequery.specs.Faults.{after_query}
use Rattle.timequery.specs.declared.fault.QueryFault.{QueryFault}
use Rattle.store.specs.Values as slot_values
use Rattle.log_store.specs.Names as logs
use Rattle.log_store.specs.Values.{LogStoreValue, IsInStep}
use Rattle.any_store.specs.declared.engine.Engine.TheVariants.{Slots, Log}
use Rattle.any_store.specs.declared.steps.Did.{Did}
use Rattle.any_store.specs.declared.steps.JobDid.{JobDid}
use Rattle.any_store.specs.Values.{StoreValue, is_log, commits_in, commits_of}
use Rattle.any_store.specs.Calls as stores
use Rattle.any_store.specs.Jobs.{StartsArchive, StartsReclaim, StartsFloor, StartsGrowth, PumpsJob}
use Rattle.any_store.specs.Queries as queries
use Rattle.law_refinement.specs.Homes as slot_homes
use Rattle.law_refinement.specs.Stands as slots
use Rattle.law_refinement.proofs.Answering.{times-of_label}
use Rattle.law_refinement.proofs.RunsKept.{up_to-same}
use Rattle.law_refinement.proofs.RunsStep.{goes-same}
use Rattle.law_log_store.proofs.Calls.{begin-alone, abort-alone, redeem-alone}
use Rattle.law_log_queries.proofs.Leaving.{alone-leaves}
use Rattle.law_log_queries.proofs.Leaving as log_leaves
use Rattle.law_log_queries.specs.Names.{SaysTimes}
use Rattle.law_log_queries.proofs.Asking as log_asked
use Rattle.law_log_queries.proofs.Times.{times-answered}
use Rattle.law_any_store.specs.Standing.{Stands, GoesOn}
use Rattle.law_any_store.specs.Names.{names_from, KeepsNames}
use Rattle.law_any_store.specs.Views.{IsKept}
use Rattle.law_any_store.proofs.Leaving.{log-job-leaves}
use Rattle.law_any_store.proofs.Views.{asked-in_step}

-- ---- what is told

slots-told : (tells : Bool) (s s' : slot_values.StoreValue) (m : Machine Value) (label : ℕ) (answer : Result (Vec ℕ Global) QueryFault)
    → slots.Stands tells s m → queries.AnswersTimesOfSlots s label answer s' → SaysTimes tells false 0 (answers.times_of m.published label) answer
slots-told tells s s' m label (Ok found) is asks = let are = asks.is ∙ times-of_label s.transactions m label is.memory in (λ sure. are, are)
slots-told tells s s' m label (Err why) is asks =
    subst (λ (w : QueryFault). SaysTimes tells false 0 (answers.times_of m.published label) (Err w)) (sym asks.refused) tt

pub times-told : (tells : Bool) (v new : StoreValue) (m : Machine Value) (label : ℕ) (answer : Result (Vec ℕ Global) QueryFault)
    → Stands tells v m → queries.AnswersTimes tells v label answer new → SaysTimes tells (is_log v) (names_from v) (answers.times_of m.published label) answer
times-told tells (Slots s) (Slots s') m label answer is asks = slots-told tells s s' m label answer is asks
times-told tells (Slots s) (Log l') m label answer is asks = absurd asks
times-told tells (Log l) (Slots s') m label answer is asks = absurd asks
times-told tells (Log l) (Log l') m label answer is asks = times-answered tells l m label is.1 l' answer asks

-- ---- what is left

slots-kept : (tells : Bool) (s s' : slot_values.StoreValue) (m : Machine Value) → slots.Stands tells s m → s' ≡ s → IsKept tells (Slots s) (Slots s') m
slots-kept tells s s' m is same = record {
  stands = subst (λ (x : slot_values.StoreValue). slots.Stands tells x m) (sym same) is;
  goes = subst (λ (x : slot_values.StoreValue). slot_homes.GoesOn tells s x) (sym same)
      (goes-same tells s s (record { runs = refl; kept = refl; archived = refl; runs_end = refl; mark = refl })
      (λ told. up_to-same s.runs_end (archive_of s.disk)));
  commits = ap (λ (x : slot_values.StoreValue). commits_in x.transactions) same;
}

log-kept : (tells : Bool) (l l' : LogStoreValue) (m : Machine Value) (label : ℕ) (answer : Result (Vec ℕ Global) QueryFault)
    → Stands tells (Log l) m → logs.AnswersTimes tells l label answer l' → IsKept tells (Log l) (Log l') m
log-kept tells l l' m label answer is asks =
    let done = log_asked.times-stand tells l l' m label answer is.1 asks in
    record {
      stands = (subst IsInStep (sym asks.new_is) (asked-in_step l l.archive (after_query answer l.disk) is.0), done.0);
      goes = done.1;
      commits = ap (λ (x : LogStoreValue). x.commits) asks.new_is;
    }

pub times-stand : (tells : Bool) (v new : StoreValue) (m : Machine Value) (label : ℕ) (answer : Result (Vec ℕ Global) QueryFault)
    → Stands tells v m → queries.AnswersTimes tells v label answer new → IsKept tells v new m
times-stand tells (Slots s) (Slots s') m label answer is asks = slots-kept tells s s' m is asks.new_is
times-stand tells (Slots s) (Log l') m label answer is asks = absurd asks
times-stand tells (Log l) (Slots s') m label answer is asks = absurd asks
times-stand tells (Log l) (Log l') m label answer is asks = log-kept tells l l' m label answer is asks

-- ---- what no call takes from memory

same-names : (l l' : LogStoreValue) → l' ≡ l → KeepsNames (Log l) (Log l')
same-names l l' same = ap (λ (x : LogStoreValue). x.commits.reclaimed) same

pub begin-names : (old new : StoreValue) (answer : Result TxnValue BeginFault) → stores.Begins old answer new → KeepsNames old new
begin-names (Slots s) (Slots s') answer begins = refl
begin-names (Slots s) (Log l') answer begins = absurd begins
begin-names (Log l) (Slots s') answer begins = absurd begins
begin-names (Log l) (Log l') answer begins =
    (alone-leaves true l l' (begin-alone l.commits l'.commits answer begins.is) begins.new_is).reclaimed

pub abort-names : (old new : StoreValue) (txn : TxnValue) → stores.Aborts old txn new → KeepsNames old new
abort-names (Slots s) (Slots s') txn aborts = refl
abort-names (Slots s) (Log l') txn aborts = absurd aborts
abort-names (Log l) (Slots s') txn aborts = absurd aborts
abort-names (Log l) (Log l') txn aborts = (alone-leaves true l l' (abort-alone l.commits l'.commits txn aborts.is) aborts.new_is).reclaimed

pub submit-names : (old new : StoreValue) (txn : TxnValue) (label now : ℕ) (answer : Result Submitted SubmitFault)
    → stores.Submits old txn label now answer new → KeepsNames old new
submit-names (Slots s) (Slots s') txn label now answer submits = refl
submit-names (Slots s) (Log l') txn label now answer submits = absurd submits
submit-names (Log l) (Slots s') txn label now answer submits = absurd submits
submit-names (Log l) (Log l') txn label now answer submits = (log_leaves.submit-leaves true l l' txn label now answer submits).reclaimed

pub redeem-names : (old new : StoreValue) (ticket : TicketValue) (answer : Redeemed) → stores.Redeems old ticket answer new → KeepsNames old new
redeem-names (Slots s) (Slots s') ticket answer redeems = refl
redeem-names (Slots s) (Log l') ticket answer redeems = absurd redeems
redeem-names (Log l) (Slots s') ticket answer redeems = absurd redeems
redeem-names (Log l) (Log l') ticket answer redeems =
    (alone-leaves true l l' (redeem-alone l.commits l'.commits ticket answer redeems.is) redeems.new_is).reclaimed

pub pump-names : (tells : Bool) (old new : StoreValue) (answer : Result Did PumpFault) → stores.Pumps tells old answer new → KeepsNames old new
pump-names tells (Slots s) (Slots s') answer pumps = refl
pump-names tells (Slots s) (Log l') answer pumps = absurd pumps
pump-names tells (Log l) (Slots s') answer pumps = absurd pumps
pump-names tells (Log l) (Log l') answer pumps = (log_leaves.pump-leaves tells l l' pumps.0 pumps.1).reclaimed

pub start-names : (old new : StoreValue) (upto : ℕ) (answer : Result (Unit {0}) StartFault) → StartsArchive old upto answer new → KeepsNames old new
start-names (Slots s) (Slots s') upto answer starts = refl
start-names (Slots s) (Log l') upto answer starts = absurd starts
start-names (Log l) (Slots s') upto answer starts = absurd starts
start-names (Log l) (Log l') upto answer starts = (log_leaves.archive-leaves true l l' upto starts.0 starts.1).reclaimed

pub reclaim-names : (old new : StoreValue) (answer : Result (Unit {0}) StartFault) → StartsReclaim old answer new → KeepsNames old new
reclaim-names (Slots s) (Slots s') answer starts = refl
reclaim-names (Slots s) (Log l') answer starts = absurd starts
reclaim-names (Log l) (Slots s') answer starts = absurd starts
reclaim-names (Log l) (Log l') answer starts = (log_leaves.reclaim-leaves true l l' starts.0 starts.1).reclaimed

pub floor-names : (old new : StoreValue) (scope : Option ℕ) (floor : ℕ) (answer : Result (Unit {0}) StartFault) → StartsFloor old scope floor answer new
    → KeepsNames old new
floor-names (Slots s) (Slots s') scope floor answer starts = refl
floor-names (Slots s) (Log l') scope floor answer starts = absurd starts
floor-names (Log l) (Slots s') scope floor answer starts = absurd starts
floor-names (Log l) (Log l') scope floor answer starts = (log_leaves.floor-leaves true l l' scope floor starts.0 starts.1).reclaimed

pub grow-names : (old new : StoreValue) (answer : Result (Unit {0}) StartFault) → StartsGrowth old answer new → KeepsNames old new
grow-names (Slots s) (Slots s') answer starts = refl
grow-names (Slots s) (Log l') answer starts = absurd starts
grow-names (Log l) (Slots s') answer starts = absurd starts
grow-names (Log l) (Log l') answer starts = same-names l l' starts.1

pub pumped-names : (tells : Bool) (old new : StoreValue) (answer : Result JobDid PumpFault) → PumpsJob tells old answer new → KeepsNames old new
pumped-names tells (Slots s) (Slots s') answer pumps = refl
pumped-names tells (Slots s) (Log l') answer pumps = absurd pumps
pumped-names tells (Log l) (Slots s') answer pumps = absurd pumps
pumped-names tells (Log l) (Log l') answer pumps = (log-job-leaves tells l l' pumps.0 pumps.1).reclaimed

pub kept-names : (tells : Bool) (old new : StoreValue) → GoesOn tells old new → commits_of new ≡ commits_of old → KeepsNames old new
kept-names tells (Slots s) (Slots s') goes same = refl
kept-names tells (Slots s) (Log l') goes same = absurd goes
kept-names tells (Log l) (Slots s') goes same = absurd goes
kept-names tells (Log l) (Log l') goes same = ap (λ (c : CommitsValue). c.reclaimed) same
