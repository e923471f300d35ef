-- Lines that speak of a name.
use Rattle.std.proofs.Common.{◌≡◌, ℕ, ◌+◌, ◌⊎◌, Bool, true, false, List, [], ◌∷◌, ◌++◌, length, map, Option, Some, Result, Ok, Err, MatchOption, Bor, refl, sym}
use Rattle.std.proofs.Common.{◌∙◌, ap, subst, inl, inr}
use Rattle.std.specs.Prelude.{slice_get, slice_set, remove}
use Rattle.std.specs.declared.alloc.AllocError.{AllocError}
use Rattle.history.specs.declared.key.Key.{Key}
use Rattle.history.specs.Histories.{last}
use Rattle.group.specs.declared.answers.BeginFault.{BeginFault}
use Rattle.group.specs.declared.answers.Redeemed.{Redeemed}
use Rattle.group.specs.declared.answers.Redeemed.TheVariants as redeemed
use Rattle.group.specs.declared.answers.Submitted.{Submitted}
use Rattle.group.specs.declared.answers.Submitted.TheVariants as submitted
use Rattle.group.specs.declared.answers.SubmitFault.{SubmitFault}
use Rattle.snapshot.specs.Txn.{TxnValue}
use Rattle.snapshot.specs.declared.txn.TxnFault.{TxnFault}
use Rattle.script.specs.declared.line.Line.TheVariants as line
use Rattle.session.specs.Session.{State, is_taken, txn_place, ticket_place, IfTest, BeginStep, PutStep, DeleteStep, GetStep, SubmitStep, AbortStep, RedeemStep}
use Rattle.session.specs.Session.{AnswersPut, LacksMemory}
use Rattle.session.specs.Session as session
use Rattle.session.specs.Texts.{Text}
use Rattle.session.specs.declared.names.OpenName.{OpenName}
use Rattle.session.specs.declared.names.TicketName.{TicketName}
use Rattle.session.specs.declared.reply.Reply.{Reply}
use Rattle.session.specs.declared.reply.Reply.TheVariants as reply
use Rattle.law_any_store.proofs.Calls.{begin-stands}
use Rattle.any_store.specs.Calls as stores
use Rattle.law_any_store.proofs.Few.{begin-few, abort-few, submit-few, redeem-few}
use Rattle.run.specs.declared.calls.Call.TheVariants as call
use Rattle.run.specs.declared.calls.Answer.TheVariants as answer
use Rattle.run.specs.declared.calls.SubmitOutcome.TheVariants as outcome
use Rattle.run.specs.declared.calls.RedeemOutcome.TheVariants as told
use Rattle.run.specs.declared.held.Held.{Held}
use Rattle.run.specs.declared.held.Held.TheVariants as held
use Rattle.run.proofs.Lists.{set-get}
use Rattle.run.proofs.Steps.{begin-goes, abort-goes}
use Rattle.run.proofs.Reading.{get-goes, put-goes, delete-goes}
use Rattle.run.proofs.Submitting.{submit-goes}
use Rattle.run.proofs.Tickets.{redeem-goes}
use Rattle.law_script.specs.ScriptMoments.{ScriptMoment, held_of, with_reply}
use Rattle.law_script.specs.Says.{Exchange, Says, SaysBegin, SaysPut, SaysDelete, SaysGet, SaysSubmit, SaysAbort, SaysRedeem, no_call}
use Rattle.law_script.proofs.Among.{Among, all, wider}
use Rattle.law_script.proofs.Names.{as-state, held_in, open-held, open-added, open-removed, open-changed, ticket-held, ticket-removed, ticket-changed}
use Rattle.law_script.proofs.Names.{ticket-added}
use Rattle.law_script.proofs.Leading.{IsScriptMoment, LeadsTo, silent, by-call, by-none, by-refusal, by-name, same-few}

-- ---- begin

begin-some : (tells : Bool) (m : ScriptMoment) → IsScriptMoment tells m → (name : Text) (r : Reply) (new : State)
    → ((made : Exchange) → SaysBegin m made r → Says m (line.Begin name) made r) → BeginStep m.state name r new → LeadsTo tells (line.Begin name) r m new
begin-some tells m is name r new says step = by-answer step.0 step.1 step.2 step.3 step.4
  where
    xs : List Held
    xs = held_of m.state

    by-answer : (o : Result TxnValue BeginFault) → stores.Begins m.state.store o new.store → r ≡ session.begun o → new.opened
        ≡ session.with_begun name m.state.opened o → new.tickets ≡ m.state.tickets → LeadsTo tells (line.Begin name) r m new
    by-answer (Ok txn) begins replied opened tickets =
        let did = begin-stands tells m.state.store new.store (Ok txn) m.machine is.world.stands begins in
        let snapshot : txn.snapshot ≡ last m.machine.published = did.0.1 in
        let e : OpenName = record { name = name; txn = txn } in
        by-call tells m is (line.Begin name) r call.Begin (answer.Begin (Ok tt)) (says _ (
          Ok tt,
          refl,
          replied
              ∙ ap (λ (time : ℕ). reply.Snapshot time) snapshot,
        )) (silent r _ m.done replied refl)
        new.store (xs ++ held.Transaction txn
        ∷ []) (begin-goes tells m.state.store new.store xs (Ok txn) begins) (begin-few m.state.store new.store _ begins)
        new refl (as-state new (m.state.opened ++ e ∷ []) m.state.tickets (xs ++ held.Transaction txn
        ∷ []) opened tickets (open-added m.state.opened m.state.tickets e))
    by-answer (Err why) begins replied opened tickets =
        by-call tells m is (line.Begin name) r call.Begin (answer.Begin (Err why)) (says _ (Err why, refl, replied)) (silent r _ m.done replied refl)
        new.store (xs ++ held.Nothing ∷ []) (begin-goes tells m.state.store new.store xs (Err why) begins) (begin-few m.state.store new.store _ begins)
        new refl (as-state new m.state.opened m.state.tickets (xs ++ held.Nothing ∷ []) opened tickets (wider xs xs (held.Nothing ∷ []) (all xs)))

pub begin-line : (tells : Bool) (m : ScriptMoment) → IsScriptMoment tells m → (name : Text) (r : Reply) (new : State)
    → IfTest (is_taken name m.state) (session.RefusesName m.state r new) (BeginStep m.state name r new) → LeadsTo tells (line.Begin name) r m new
begin-line tells m is name r new step = by-test (is_taken name m.state) refl
  where
    by-test : (b : Bool) → is_taken name m.state ≡ b → LeadsTo tells (line.Begin name) r m new
    by-test true taken =
        by-refusal tells m is (line.Begin name) r new (λ refuses. (
          (λ yes'. refuses),
          (λ no'. absurd (let both : true ≡ false = sym taken ∙ no' in cc)),
        )) (step.0 taken)
    by-test false free =
        begin-some tells m is name r new (λ made begins. ((λ yes'. absurd (let both : false ≡ true = sym free ∙ yes' in cc)), (λ no'. begins))) (step.1 free)

-- ---- put and delete

done-silent : (o : Result (Unit {0}) TxnFault) (done : List ℕ) → with_reply (session.done o) done ≡ done
done-silent (Ok u) done = refl
done-silent (Err why) done = refl

abbrev bor : Text → Bor Text
bor x = record { ref_ptr = (0, 0); now = x }

abbrev bor_all : List Text → List (Bor Text)
bor_all [] = []
bor_all (x ∷ xs) = bor x ∷ bor_all xs

bor-all-now : (xs : List Text) → map (λ (part : Bor Text). part.now) (bor_all xs) ≡ xs
bor-all-now [] = refl
bor-all-now (x ∷ xs) = ap (λ (l : List Text). x ∷ l) (bor-all-now xs)

rewritten : (s : State) (i : ℕ) (e : OpenName) (txn : TxnValue) (new : State) → session.WithTxn s i e txn new
    → Among (held_of new) (slice_set (held_of s) i (held.Transaction txn) ++ held.Nothing ∷ [])
rewritten s i e txn new with_txn =
    let e' : OpenName = record e { txn = txn } in
    as-state new (remove s.opened i ++ e' ∷ []) s.tickets (slice_set (held_of s) i (held.Transaction txn) ++ held.Nothing ∷ []) with_txn.2 with_txn.3
    (wider (held_in (remove s.opened i ++ e' ∷ []) s.tickets) (slice_set (held_of s) i (held.Transaction txn)) (held.Nothing
    ∷ []) (open-changed s.opened s.tickets i e e' with_txn.0))

put-some : (tells : Bool) (m : ScriptMoment) → IsScriptMoment tells m → (name : Text) (key : Key) (fields : List Text) (r : Reply) (new : State) (i : ℕ)
    → ((made : Exchange) → SaysPut i key fields made r → Says m (line.Put name key fields) made r)
    → PutStep m.state i key fields r new → LeadsTo tells (line.Put name key fields) r m new
put-some tells m is name key fields r new i says step = by-way step.4
  where
    s : State
    s = m.state

    xs : List Held
    xs = held_of m.state

    e : OpenName
    e = step.0

    here : slice_get xs i ≡ Some (held.Transaction e.txn)
    here = open-held s.opened s.tickets i e step.3.0

    by-way : LacksMemory e.txn step.2 step.1 ⊎ AnswersPut e.txn key fields step.2 step.1 → LeadsTo tells (line.Put name key fields) r m new
    by-way (inl lacks) =
        let replied : r ≡ session.done (Err _) = step.5 ∙ ap session.done lacks.0 in
        let same : slice_set xs i (held.Transaction step.1) ≡ xs =
        ap (λ (t : TxnValue). slice_set xs i (held.Transaction t)) lacks.1 ∙ set-get xs i (held.Transaction e.txn) here in
        let e' : OpenName = record e { txn = step.1 } in
        by-none tells m is (line.Put name key fields) r (says no_call (inl (refl, replied))) (silent r _ m.done replied refl) new step.3.1
        (as-state new (remove s.opened i ++ e'
        ∷ []) s.tickets xs step.3.2 step.3.3
        (subst (λ (l : List Held). Among (held_in (remove s.opened i ++ e' ∷ []) s.tickets) l) same (open-changed s.opened s.tickets i e e' step.3.0)))
    by-way (inr puts) =
        let parts : Bor (List (Bor Text)) = record { ref_ptr = (0, 0); now = bor_all fields } in
        let is_put : AnswersPut e.txn key (map (λ (part : Bor Text). part.now) parts.now) step.2 step.1 =
        subst (λ (f : List Text). AnswersPut e.txn key f step.2 step.1) (sym (bor-all-now fields)) puts in
        by-call tells m is (line.Put name key fields) r (call.Put i key parts) (answer.Put step.2)
        (says _ (inr (parts, step.2, bor-all-now fields, refl, step.5))) (silent r _ m.done step.5 (done-silent step.2 m.done))
        s.store (slice_set xs i (held.Transaction step.1) ++ held.Nothing
        ∷ []) (put-goes tells s.store xs i key parts e.txn step.1 step.2 here is_put.ok is_put.missing is_put.too_many is_put.bad is_put.err)
        (same-few s.store)
        new step.3.1 (rewritten s i e step.1 new step.3)

pub put-line : (tells : Bool) (m : ScriptMoment) → IsScriptMoment tells m → (name : Text) (key : Key) (fields : List Text) (r : Reply) (new : State)
    → MatchOption (txn_place name m.state) (session.RefusesName m.state r new) (λ i. PutStep m.state i key fields r new)
    → LeadsTo tells (line.Put name key fields) r m new
put-line tells m is name key fields r new step =
    by-name tells m is (line.Put name key fields) r new (txn_place name m.state) (λ i made q. SaysPut i key fields made q)
    (λ i. PutStep m.state i key fields r new) (λ made says. says) step
    (λ i says put. put-some tells m is name key fields r new i says put)

pub delete-line : (tells : Bool) (m : ScriptMoment) → IsScriptMoment tells m → (name : Text) (key : Key) (r : Reply) (new : State)
    → MatchOption (txn_place name m.state) (session.RefusesName m.state r new) (λ i. DeleteStep m.state i key r new)
    → LeadsTo tells (line.Delete name key) r m new
delete-line tells m is name key r new step =
    by-name tells m is (line.Delete name key) r new (txn_place name m.state) (λ i made q. SaysDelete i key made q) (λ i. DeleteStep m.state i key r new)
    (λ made says. says) step (λ i says deletes.
    let s = m.state in
    let xs = held_of m.state in
    let here = open-held s.opened s.tickets i deletes.0 deletes.3.0 in
    let d = deletes.4 in
    by-call tells m is (line.Delete name key) r (call.Delete i key) (answer.Delete deletes.2) (says _ (
      deletes.2,
      refl,
      deletes.5,
    )) (silent r _ m.done deletes.5 (done-silent deletes.2 m.done))
    s.store (slice_set xs i (held.Transaction deletes.1) ++ held.Nothing
    ∷ []) (delete-goes tells s.store xs i key deletes.0.txn deletes.1 deletes.2 here d.ok d.missing d.too_many d.bad d.err) (same-few s.store)
    new deletes.3.1 (rewritten s i deletes.0 deletes.1 new deletes.3))

-- ---- get

seen-silent : (o : Result (Option (List Text)) AllocError) (done : List ℕ) → with_reply (session.seen o) done ≡ done
seen-silent (Ok u) done = refl
seen-silent (Err why) done = refl

pub get-line : (tells : Bool) (m : ScriptMoment) → IsScriptMoment tells m → (name : Text) (key : Key) (r : Reply) (new : State)
    → MatchOption (txn_place name m.state) (session.RefusesName m.state r new) (λ i. GetStep m.state i key r new) → LeadsTo tells (line.Get name key) r m new
get-line tells m is name key r new step =
    by-name tells m is (line.Get name key) r new (txn_place name m.state) (λ i made q. SaysGet i key made q) (λ i. GetStep m.state i key r new)
    (λ made says. says) step (λ i says gets.
    let s = m.state in
    let xs = held_of m.state in
    let here = open-held s.opened s.tickets i gets.0 gets.2 in
    subst (λ (t : State). LeadsTo tells (line.Get name key) r m t) (sym gets.5)
    (by-call tells m is (line.Get name key) r (call.Get i key) (answer.Get gets.1) (says _ (
      gets.1,
      refl,
      gets.4,
    )) (silent r _ m.done gets.4 (seen-silent gets.1 m.done))
    s.store (xs ++ held.Nothing ∷ []) (get-goes tells s.store xs i key gets.0.txn gets.1 here gets.3) (same-few s.store)
    s refl (wider xs xs (held.Nothing ∷ []) (all xs))))

-- ---- abort and submit

taken-off : (s : State) (i : ℕ) (e : OpenName) (x : Held) → slice_get s.opened i ≡ Some e
    → Among (held_in (remove s.opened i) s.tickets) (slice_set (held_of s) i held.Nothing ++ x ∷ [])
taken-off s i e x at =
    wider (held_in (remove s.opened i) s.tickets) (slice_set (held_of s) i held.Nothing) (x ∷ []) (open-removed s.opened s.tickets i e held.Nothing at)

pub abort-line : (tells : Bool) (m : ScriptMoment) → IsScriptMoment tells m → (name : Text) (r : Reply) (new : State)
    → MatchOption (txn_place name m.state) (session.RefusesName m.state r new) (λ i. AbortStep m.state i r new) → LeadsTo tells (line.Abort name) r m new
abort-line tells m is name r new step =
    by-name tells m is (line.Abort name) r new (txn_place name m.state) (λ i made q. SaysAbort i made q) (λ i. AbortStep m.state i r new) (λ made says. says)
    step (λ i says aborts.
    let s = m.state in
    let xs = held_of m.state in
    let here = open-held s.opened s.tickets i aborts.0 aborts.1 in
    by-call tells m is (line.Abort name) r (call.Abort i) answer.Abort (says _ (refl, aborts.4)) (silent r _ m.done aborts.4 refl)
    new.store (slice_set xs i held.Nothing ++ held.Nothing
    ∷ []) (abort-goes tells s.store new.store xs i aborts.0.txn here aborts.2 aborts.3) (abort-few s.store new.store _ aborts.3)
    new refl (as-state new (remove s.opened i) s.tickets (slice_set xs i held.Nothing ++ held.Nothing
    ∷ []) aborts.5 aborts.6 (taken-off s i aborts.0 held.Nothing aborts.1)))

submit-some : (tells : Bool) (m : ScriptMoment) → IsScriptMoment tells m → (name : Text) (label now : ℕ) (r : Reply) (new : State) (i : ℕ)
    → ((made : Exchange) → SaysSubmit i label now made r → Says m (line.Submit name label now) made r)
    → SubmitStep m.state i label now r new → LeadsTo tells (line.Submit name label now) r m new
submit-some tells m is name label now r new i says step = by-answer step.1 step.5 step.6 step.8
  where
    s : State
    s = m.state

    xs : List Held
    xs = held_of m.state

    e : OpenName
    e = step.0

    here : slice_get xs i ≡ Some (held.Transaction e.txn)
    here = open-held s.opened s.tickets i e step.2

    by-answer : (o : Result Submitted SubmitFault) → stores.Submits s.store e.txn label now o new.store → r ≡ session.submitted o → new.tickets
        ≡ session.with_submitted e.name s.tickets o → LeadsTo tells (line.Submit name label now) r m new
    by-answer (Ok (submitted.ReadOnly time)) submits replied tickets =
        by-call tells m is (line.Submit name label now) r (call.Submit i label now) (answer.Submit (Ok (outcome.ReadOnly time)))
        (says _ (Ok (outcome.ReadOnly time), refl, replied)) (silent r _ m.done replied refl)
        new.store (slice_set xs i held.Nothing ++ held.Nothing
        ∷ []) (submit-goes tells s.store new.store xs i e.txn label now (Ok (submitted.ReadOnly time)) here step.3 step.4 submits)
        (submit-few s.store new.store _ _ _ _ submits)
        new refl (as-state new (remove s.opened i) s.tickets (slice_set xs i held.Nothing ++ held.Nothing
        ∷ []) step.7 tickets (taken-off s i e held.Nothing step.2))
    by-answer (Ok (submitted.Queued ticket)) submits replied tickets =
        let k : TicketName = record { name = e.name; ticket = ticket } in
        by-call tells m is (line.Submit name label now) r (call.Submit i label now) (answer.Submit (Ok outcome.Queued)) (says _ (
          Ok outcome.Queued,
          refl,
          replied,
        )) (silent r _ m.done replied refl)
        new.store (slice_set xs i held.Nothing ++ held.Ticket ticket
        ∷ []) (submit-goes tells s.store new.store xs i e.txn label now (Ok (submitted.Queued ticket)) here step.3 step.4 submits)
        (submit-few s.store new.store _ _ _ _ submits)
        new refl (as-state new (remove s.opened i) (s.tickets ++ k ∷ []) (slice_set xs i held.Nothing ++ held.Ticket ticket ∷ []) step.7 tickets
        (ticket-added (remove s.opened i) s.tickets k (slice_set xs i held.Nothing) (open-removed s.opened s.tickets i e held.Nothing step.2)))
    by-answer (Err why) submits replied tickets =
        by-call tells m is (line.Submit name label now) r (call.Submit i label now) (answer.Submit (Err why)) (says _ (
          Err why,
          refl,
          replied,
        )) (silent r _ m.done replied refl)
        new.store (slice_set xs i held.Nothing ++ held.Nothing
        ∷ []) (submit-goes tells s.store new.store xs i e.txn label now (Err why) here step.3 step.4 submits) (submit-few s.store new.store _ _ _ _ submits)
        new refl (as-state new (remove s.opened i) s.tickets (slice_set xs i held.Nothing ++ held.Nothing
        ∷ []) step.7 tickets (taken-off s i e held.Nothing step.2))

pub submit-line : (tells : Bool) (m : ScriptMoment) → IsScriptMoment tells m → (name : Text) (label now : ℕ) (r : Reply) (new : State)
    → MatchOption (txn_place name m.state) (session.RefusesName m.state r new) (λ i. SubmitStep m.state i label now r new)
    → LeadsTo tells (line.Submit name label now) r m new
submit-line tells m is name label now r new step =
    by-name tells m is (line.Submit name label now) r new (txn_place name m.state) (λ i made q. SaysSubmit i label now made q)
    (λ i. SubmitStep m.state i label now r new) (λ made says. says) step
    (λ i says submits. submit-some tells m is name label now r new i says submits)

-- ---- redeem

redeem-some : (tells : Bool) (m : ScriptMoment) → IsScriptMoment tells m → (name : Text) (r : Reply) (new : State) (j : ℕ)
    → ((made : Exchange) → SaysRedeem (length m.state.opened + j) made r → Says m (line.Redeem name) made r)
    → RedeemStep m.state j r new → LeadsTo tells (line.Redeem name) r m new
redeem-some tells m is name r new j says step = by-answer step.1 step.3 step.4 step.5
  where
    s : State
    s = m.state

    xs : List Held
    xs = held_of m.state

    i : ℕ
    i = length m.state.opened + j

    e : TicketName
    e = step.0

    here : slice_get xs i ≡ Some (held.Ticket e.ticket)
    here = ticket-held s.opened s.tickets j e step.2

    spent : new.tickets ≡ remove s.tickets j → Among (held_of new) (slice_set xs i held.Nothing ++ held.Nothing ∷ [])
    spent tickets = as-state new s.opened (remove s.tickets j) (slice_set xs i held.Nothing ++ held.Nothing ∷ []) step.6 tickets
        (wider (held_in s.opened (remove s.tickets j)) (slice_set xs i held.Nothing) (held.Nothing
        ∷ []) (ticket-removed s.opened s.tickets j e held.Nothing step.2))

    by-answer : (o : Redeemed) → stores.Redeems s.store e.ticket o new.store → r ≡ session.redeemed o → new.tickets
        ≡ session.with_redeemed e.name (remove s.tickets j) o → LeadsTo tells (line.Redeem name) r m new
    by-answer (redeemed.Done time) redeems replied tickets =
        by-call tells m is (line.Redeem name) r (call.Redeem i) (answer.Redeem (told.Done time)) (says _ (
          told.Done time,
          refl,
          replied,
        )) (sym (ap (λ (x : Reply). with_reply x m.done) replied))
        new.store (slice_set xs i held.Nothing ++ held.Nothing
        ∷ []) (redeem-goes tells s.store new.store xs i e.ticket (redeemed.Done time) here redeems) (redeem-few s.store new.store _ _ redeems) new refl
        (spent tickets)
    by-answer (redeemed.Waiting ticket) redeems replied tickets =
        let k : TicketName = record { name = e.name; ticket = ticket } in
        by-call tells m is (line.Redeem name) r (call.Redeem i) (answer.Redeem told.Waiting) (says _ (
          told.Waiting,
          refl,
          replied,
        )) (silent r _ m.done replied refl)
        new.store (slice_set xs i (held.Ticket ticket) ++ held.Nothing
        ∷ []) (redeem-goes tells s.store new.store xs i e.ticket (redeemed.Waiting ticket) here redeems) (redeem-few s.store new.store _ _ redeems)
        new refl (as-state new s.opened (remove s.tickets j ++ k ∷ []) (slice_set xs i (held.Ticket ticket) ++ held.Nothing ∷ []) step.6 tickets
        (wider (held_in s.opened (remove s.tickets j ++ k ∷ [])) (slice_set xs i (held.Ticket ticket)) (held.Nothing
        ∷ []) (ticket-changed s.opened s.tickets j e k step.2)))
    by-answer redeemed.InDoubt redeems replied tickets =
        by-call tells m is (line.Redeem name) r (call.Redeem i) (answer.Redeem told.InDoubt) (says _ (
          told.InDoubt,
          refl,
          replied,
        )) (silent r _ m.done replied refl)
        new.store (slice_set xs i held.Nothing ++ held.Nothing
        ∷ []) (redeem-goes tells s.store new.store xs i e.ticket redeemed.InDoubt here redeems) (redeem-few s.store new.store _ _ redeems) new refl
        (spent tickets)
    by-answer redeemed.Stranger redeems replied tickets =
        by-call tells m is (line.Redeem name) r (call.Redeem i) (answer.Redeem told.Stranger) (says _ (
          told.Stranger,
          refl,
          replied,
        )) (silent r _ m.done replied refl)
        new.store (slice_set xs i held.Nothing ++ held.Nothing
        ∷ []) (redeem-goes tells s.store new.store xs i e.ticket redeemed.Stranger here redeems) (redeem-few s.store new.store _ _ redeems) new refl
        (spent tickets)

pub redeem-line : (tells : Bool) (m : ScriptMoment) → IsScriptMoment tells m → (name : Text) (r : Reply) (new : State)
    → MatchOption (ticket_place name m.state) (session.RefusesName m.state r new) (λ i. RedeemStep m.state i r new) → LeadsTo tells (line.Redeem name) r m new
redeem-line tells m is name r new step =
    by-name tells m is (line.Redeem name) r new (ticket_place name m.state) (λ j made q. SaysRedeem (length m.state.opened + j) made q)
    (λ j. RedeemStep m.state j r new) (λ made says. says) step
    (λ j says redeems. redeem-some tells m is name r new j says redeems)
