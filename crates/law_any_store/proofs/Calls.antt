-- The calls of transactions, tickets and groups are steps of the machine, in either layout.
use Rattle.std.proofs.Common.{◌≡◌, ℕ, ◌<◌, ◌^◌, Bool, true, false, List, [], ◌∷◌, ◌++◌, Result, Ok, Err, refl, ap, sym, subst, ◌∙◌}
use Rattle.std.specs.Prelude.{IsTrue, MatchBool}
use Rattle.disk.specs.Areas.{AreSound}
use Rattle.history.specs.Answers as answers
use Rattle.history.specs.Machine.{Machine}
use Rattle.history.specs.Steps.{Event, Step, Run, Began, BeginRefused, Aborted, begun}
use Rattle.history.specs.Steps as steps
use Rattle.law_image.specs.Values.{Value, IsValue}
use Rattle.snapshot.specs.Txn.{TxnValue, AreTxnWrites}
use Rattle.group.specs.Tickets.{TicketValue}
use Rattle.group.specs.declared.answers.BeginFault.{BeginFault}
use Rattle.group.specs.declared.answers.BeginFault.TheVariants as fault
use Rattle.group.specs.declared.answers.Did as slot_steps
use Rattle.group.specs.declared.answers.PumpFault.{PumpFault}
use Rattle.group.specs.declared.answers.PumpFault.TheVariants as pump
use Rattle.group.specs.declared.answers.Redeemed.{Redeemed}
use Rattle.group.specs.declared.answers.Submitted.{Submitted}
use Rattle.group.specs.declared.answers.SubmitFault.{SubmitFault}
use Rattle.commits.specs.Values.{is_own}
use Rattle.store.specs.Pumps as slot_store_pumps
use Rattle.store.specs.Values as slot_store
use Rattle.log_store.specs.Pumps as log_store
use Rattle.log_store.specs.Values.{LogStoreValue}
use Rattle.log_store.specs.declared.pump.Did as log_steps
use Rattle.any_store.specs.declared.engine.Engine.TheVariants.{Slots, Log}
use Rattle.any_store.specs.declared.steps.Did.{Did}
use Rattle.any_store.specs.Values.{StoreValue, is_log, commits_of, disk_of}
use Rattle.any_store.specs.Calls as stores
use Rattle.any_store.specs.Steps.{slots_step, log_step}
use Rattle.law_refinement.specs.Calls as slot_calls
use Rattle.law_refinement.specs.Laws.{submission_of, event_of, RedeemsAs, begins_in, ends_in}
use Rattle.law_refinement.specs.Stands as slots
use Rattle.law_refinement.proofs.GrowingCalls as slot_laws
use Rattle.law_refinement.proofs.GrowingPumps as slot_pumps
use Rattle.law_log_store.proofs.Pumping.{failed-rests}
use Rattle.law_log_steps.specs.Laws as log_calls
use Rattle.law_log_steps.specs.Store.{IsStoreOf}
use Rattle.law_log_steps.proofs.Keeping as log_laws
use Rattle.law_log_steps.proofs.Submitting as log_submits
use Rattle.law_log_steps.proofs.Pumping as log_pumps
use Rattle.law_log_steps.proofs.InStep.{begin-in-step, abort-in-step, redeem-in-step, submit-in-step, pump-in-step}
use Rattle.law_log_queries.specs.Calls.{OfBegin, OfAbort, OfRedeem, OfSubmit, OfPump}
use Rattle.law_log_queries.proofs.Calls.{call-keeps}
use Rattle.law_any_store.specs.Standing.{Stands}
use Rattle.law_any_store.specs.Calls.{BeginsOn, Goes, pumped_in, RunsTo}
use Rattle.law_any_store.proofs.Told.{slots-told, log-told}

-- a single event is a run
one-step : (m after : Machine Value) (event : Event Value) → Step IsValue m event after → Run IsValue m (event ∷ []) after
one-step m after event step = (after, step, refl)

-- ---- transactions

pub begin-stands : (tells : Bool) (old new : StoreValue) (answer : Result TxnValue BeginFault) (m : Machine Value) → Stands tells old m
    → stores.Begins old answer new → BeginsOn tells m answer new
begin-stands tells (Slots s) (Slots s') answer m is begins = so answer (slot_laws.begin-stands tells s s' answer m is begins)
  where
    so : (a : Result TxnValue BeginFault) → slot_calls.BeginsOn tells m a s' → BeginsOn tells m a (Slots s')
    so (Ok txn) to = to
    so (Err fault.NoMemory) to = to
    so (Err fault.Failed) to = to
begin-stands tells (Slots s) (Log l') answer m is begins = absurd begins
begin-stands tells (Log l) (Slots s') answer m is begins = absurd begins
begin-stands tells (Log l) (Log l') answer m is begins = so answer (log_laws.begin-stands tells l l' answer m (is.1).store begins)
  where
    keeps : (after : Machine Value) (event : Event Value) → Step IsValue m event after → IsStoreOf tells l' after → Stands tells (Log l') after
    keeps after event step store = (
      begin-in-step l l' answer is.0 begins,
      (call-keeps tells l l' m after (event ∷ []) is.1 (OfBegin answer begins) (one-step m after event step) store).0,
    )

    so : (a : Result TxnValue BeginFault) → log_calls.BeginsTo tells m a l' → BeginsOn tells m a (Log l')
    so (Ok txn) to = (to.0, keeps (begun m) (Began txn.snapshot) to.0 to.1)
    so (Err fault.NoMemory) to = (to.0, keeps m (BeginRefused steps.NoMemory) to.0 to.1)
    so (Err fault.Failed) to = (to.0, keeps m (BeginRefused steps.Failed) to.0 to.1)

pub abort-stands : (tells : Bool) (old new : StoreValue) (txn : TxnValue) (m : Machine Value) → Stands tells old m → stores.Aborts old txn new
    → MatchBool (is_own (commits_of old) txn) (Goes tells m (Aborted txn.snapshot) new) (Stands tells new m)
abort-stands tells (Slots s) (Slots s') txn m is aborts = slot_laws.abort-stands tells s s' txn m is aborts
abort-stands tells (Slots s) (Log l') txn m is aborts = absurd aborts
abort-stands tells (Log l) (Slots s') txn m is aborts = absurd aborts
abort-stands tells (Log l) (Log l') txn m is aborts = so (is_own l.commits txn) (log_laws.abort-stands tells l l' txn m (is.1).store aborts)
  where
    keeps : (after : Machine Value) (events : List (Event Value)) → Run IsValue m events after → IsStoreOf tells l' after → Stands tells (Log l') after
    keeps after events run store =
        (abort-in-step l l' txn is.0 aborts, (call-keeps tells l l' m after events is.1 (OfAbort txn aborts) run store).0)

    so : (b : Bool) → MatchBool b (log_calls.Goes tells l' m (Aborted txn.snapshot)) (IsStoreOf tells l' m)
        → MatchBool b (Goes tells m (Aborted txn.snapshot) (Log l')) (Stands tells (Log l') m)
    so true to = (to.0, to.1, keeps to.0 (Aborted txn.snapshot ∷ []) (one-step m to.0 (Aborted txn.snapshot) to.1) to.2)
    so false to = keeps m [] refl to

pub submit-stands : (tells : Bool) (old new : StoreValue) (txn : TxnValue) (label now : ℕ) (answer : Result Submitted SubmitFault) (m : Machine Value)
    → Stands tells old m → AreTxnWrites txn.state txn.snapshot txn.writes → label < 2 ^ 64 → stores.Submits old txn label now answer new
    → MatchBool (is_own (commits_of old) txn) (Goes tells m (event_of m (submission_of txn label now) answer) new) (Stands tells new m)
submit-stands tells (Slots s) (Slots s') txn label now answer m is are low submits =
    slot_laws.submit-stands tells s s' txn label now answer m is are low submits
submit-stands tells (Slots s) (Log l') txn label now answer m is are low submits = absurd submits
submit-stands tells (Log l) (Slots s') txn label now answer m is are low submits = absurd submits
submit-stands tells (Log l) (Log l') txn label now answer m is are low submits =
    so (is_own l.commits txn) (log_submits.submit-stands tells l l' txn label now answer m is.0 (is.1).store submits are low)
  where
    event : Event Value
    event = event_of m (submission_of txn label now) answer

    keeps : (after : Machine Value) (events : List (Event Value)) → Run IsValue m events after → IsStoreOf tells l' after → Stands tells (Log l') after
    keeps after events run store = (
      submit-in-step l l' txn label now answer is.0 submits,
      (call-keeps tells l l' m after events is.1 (OfSubmit txn label now answer are low submits) run store).0,
    )

    so : (b : Bool) → MatchBool b (log_calls.Goes tells l' m event) (IsStoreOf tells l' m)
        → MatchBool b (Goes tells m event (Log l')) (Stands tells (Log l') m)
    so true to = (to.0, to.1, keeps to.0 (event ∷ []) (one-step m to.0 event to.1) to.2)
    so false to = keeps m [] refl to

-- ---- tickets

pub redeem-stands : (tells : Bool) (old new : StoreValue) (ticket : TicketValue) (answer : Redeemed) (m : Machine Value) → Stands tells old m
    → stores.Redeems old ticket answer new → RedeemsAs (answers.redeemed_by m ticket.time) answer × Stands tells new m
redeem-stands tells (Slots s) (Slots s') ticket answer m is redeems = slot_laws.redeem-stands tells s s' ticket answer m is redeems
redeem-stands tells (Slots s) (Log l') ticket answer m is redeems = absurd redeems
redeem-stands tells (Log l) (Slots s') ticket answer m is redeems = absurd redeems
redeem-stands tells (Log l) (Log l') ticket answer m is redeems =
    let to = log_laws.redeem-stands tells l l' ticket answer m (is.1).store redeems in (
      to.0,
      (redeem-in-step l l' ticket answer is.0 redeems, (call-keeps tells l l' m m [] is.1 (OfRedeem ticket answer redeems) refl to.1).0),
    )

-- ---- groups

-- a step of a group of one whose log is slots
slots-pump-stands : (tells : Bool) (s s' : slot_store.StoreValue) (said : Result slot_steps.Did PumpFault) (m : Machine Value) → Stands tells (Slots s) m
    → (IsTrue tells → AreSound s'.disk.areas) → slot_store_pumps.Pumps tells s said s'
    → MatchBool m.failed ((slots_step said ≡ Err pump.Failed) × Stands tells (Slots s') m) (RunsTo tells m (pumped_in false m (slots_step said)) (Slots s'))
slots-pump-stands tells s s' said m is sound pumps = so m.failed (slot_pumps.pump-stands tells s s' said m is sound pumps)
  where
    so : (b : Bool)
        → MatchBool b ((said ≡ Err pump.Failed) × slots.Stands tells s' m) ((after : Machine Value)
        × Run IsValue m (begins_in m ++ ends_in m.gate said) after × slots.Stands tells s' after)
        → MatchBool b ((slots_step said ≡ Err pump.Failed) × Stands tells (Slots s') m) (RunsTo tells m (pumped_in false m (slots_step said)) (Slots s'))
    so true to = (ap slots_step to.0, to.1)
    so false to = record {
      after = to.0;
      run = subst (λ (events : List (Event Value)). Run IsValue m events to.0) (slots-told m said) to.1;
      stands = to.2;
    }

-- and of one whose log lies in the heap
log-pump-stands : (tells : Bool) (l l' : LogStoreValue) (said : Result log_steps.Did PumpFault) (m : Machine Value) → Stands tells (Log l) m
    → (IsTrue tells → AreSound l'.disk.areas) → log_store.Pumps tells l said l'
    → MatchBool m.failed ((log_step said ≡ Err pump.Failed) × Stands tells (Log l') m) (RunsTo tells m (pumped_in true m (log_step said)) (Log l'))
log-pump-stands tells l l' said m is sound pumps = so m.failed refl
  where
    stands_then : IsStoreOf tells l m
    stands_then = (is.1).store

    so : (b : Bool) → m.failed ≡ b
        → MatchBool b ((log_step said ≡ Err pump.Failed) × Stands tells (Log l') m) (RunsTo tells m (pumped_in true m (log_step said)) (Log l'))
    so true fails =
        let rests = failed-rests tells l l' said (stands_then.memory.failed ∙ fails) pumps in
        (ap log_step rests.0, subst (λ (x : LogStoreValue). Stands tells (Log x) m) (sym rests.1) is)
    so false works =
        let runs = log_pumps.pump-stands tells l l' said m is.0 sound stands_then pumps in record {
          after = runs.after;
          run = subst (λ (events : List (Event Value)). Run IsValue m events runs.after) (log-told m said works) runs.run;
          stands = (
            pump-in-step tells l l' said (is.0, stands_then.ends) pumps,
            (call-keeps tells l l' m runs.after (log_calls.events_in m said) is.1 (OfPump said sound pumps) runs.run runs.stands).0,
          );
        }

pub pump-stands : (tells : Bool) (old new : StoreValue) (answer : Result Did PumpFault) (m : Machine Value) → Stands tells old m
    → (IsTrue tells → AreSound (disk_of new).areas) → stores.Pumps tells old answer new
    → MatchBool m.failed ((answer ≡ Err pump.Failed) × Stands tells new m) (RunsTo tells m (pumped_in (is_log old) m answer) new)
pump-stands tells (Slots s) (Slots s') answer m is sound pumps =
    subst (λ (a : Result Did PumpFault). MatchBool m.failed ((a ≡ Err pump.Failed) × Stands tells (Slots s') m)
    (RunsTo tells m (pumped_in false m a) (Slots s')))
    (sym pumps.2) (slots-pump-stands tells s s' pumps.0 m is sound pumps.1)
pump-stands tells (Slots s) (Log l') answer m is sound pumps = absurd pumps
pump-stands tells (Log l) (Slots s') answer m is sound pumps = absurd pumps
pump-stands tells (Log l) (Log l') answer m is sound pumps =
    subst (λ (a : Result Did PumpFault). MatchBool m.failed ((a ≡ Err pump.Failed) × Stands tells (Log l') m)
    (RunsTo tells m (pumped_in true m a) (Log l')))
    (sym pumps.2) (log-pump-stands tells l l' pumps.0 m is sound pumps.1)
