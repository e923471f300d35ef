-- What a submit, a ticket that is shown and a step of a group tell.
use Rattle.std.proofs.Common.{◌≡◌, ℕ, ◌≤◌, ◌==◌, ◌&&◌, nat_le, nat_lt, Bool, true, false, cond, List, [], ◌∷◌, ◌++◌, length, take, drop, Result, Ok, Err}
use Rattle.std.proofs.Common.{MatchBool, refl, sym, ap, ◌∙◌, subst, arith}
use Rattle.std.proofs.lemmas.List.{append-nil}
use Rattle.std.proofs.lemmas.Bool.Decides.{nat_tests}
use Rattle.history.specs.Histories.{History, last}
use Rattle.history.specs.Machine.{Machine, commit_order, Gate, Shut, Due, MayBeOpen, OfGroup, OfFloor}
use Rattle.history.specs.Steps.{Step, Run, Decided, GroupBegan}
use Rattle.history.specs.Submissions as submissions
use Rattle.history.specs.Submissions.{Submission, commit_made}
use Rattle.history.proofs.Histories.{last_after-append}
use Rattle.history.proofs.Runs.{step-added}
use Rattle.law_image.specs.Values.{Value, IsValue}
use Rattle.snapshot.specs.Txn.{TxnValue}
use Rattle.group.specs.CommitOrder.{last_time, is_awaited, last_published}
use Rattle.group.specs.Tickets.{TicketValue}
use Rattle.group.specs.declared.commit_order.CommitHead.{CommitHead}
use Rattle.group.specs.declared.commit_order.TicketState.TheVariants as ticket_state
use Rattle.group.specs.declared.answers.Did.{Did}
use Rattle.group.specs.declared.answers.Did.TheVariants as did
use Rattle.group.specs.declared.answers.PumpFault.{PumpFault}
use Rattle.group.specs.declared.answers.PumpFault.TheVariants as pump
use Rattle.group.specs.declared.answers.Redeemed.{Redeemed}
use Rattle.group.specs.declared.answers.Redeemed.TheVariants as redeemed
use Rattle.group.specs.declared.answers.Submitted.{Submitted}
use Rattle.group.specs.declared.answers.Submitted.TheVariants as submitted
use Rattle.group.specs.declared.answers.SubmitFault.{SubmitFault}
use Rattle.group.specs.declared.answers.SubmitFault.TheVariants as refused
use Rattle.group.specs.Values.{TransactionsValue}
use Rattle.group.specs.Calls as calls
use Rattle.group.specs.Submits.{JoinsQueue, with_queued, SubmitsOwn, AnswersSubmit}
use Rattle.group.proofs.Orders.{last_time-push}
use Rattle.law_refinement.specs.Standing.{StandsInMemory}
use Rattle.law_refinement.specs.Laws.{submission_of, event_of, begins_in, ends_in}
use Rattle.law_refinement.specs.Leaving.{LeftBySubmit, LeftByRedeem, Publishes, count_in}
use Rattle.law_refinement.proofs.Submitting.{order-last}

-- ---- submits

left-by : (v new : TransactionsValue) (t : TxnValue) (label now : ℕ) (r : Result Submitted SubmitFault) → AnswersSubmit v t label now r new
    → LeftBySubmit v t label r new
left-by v new t label now (Ok (submitted.ReadOnly snapshot)) says = (says.1, says.2)
left-by v new t label now (Ok (submitted.Queued ticket)) says = (says.1, says.2)
left-by v new t label now (Err (refused.Conflict key)) says = says.1
left-by v new t label now (Err refused.HeapFull) says = says.1
left-by v new t label now (Err refused.StatusFull) says = says.1
left-by v new t label now (Err refused.ClockEnd) says = says.1
left-by v new t label now (Err refused.NoMemory) says = says.1
left-by v new t label now (Err refused.Failed) says = says.1
left-by v new t label now (Err refused.Stranger) says = absurd says.0

pub left-is : (v new : TransactionsValue) (t : TxnValue) (label now : ℕ) (r : Result Submitted SubmitFault) → SubmitsOwn v t label now r new
    → LeftBySubmit v t label r new
left-is v new t label now r says = by-failure v.failed says
  where
    by-failure : (b : Bool) → MatchBool b ((r ≡ Err refused.Failed) × (new ≡ v)) (AnswersSubmit v t label now r new) → LeftBySubmit v t label r new
    by-failure true says = subst (λ (x : Result Submitted SubmitFault). LeftBySubmit v t label x new) (sym says.0) says.1
    by-failure false says = left-by v new t label now r says

-- the time of a commit that was queued is that of the machine's
pub queued-time : (v new : TransactionsValue) (m after : Machine Value) (label time : ℕ) (t : TxnValue) (numbers : List ℕ) (s : Submission Value)
    → StandsInMemory new after → new ≡ with_queued v label time t.writes numbers
    → Step IsValue m (Decided s (submissions.Queues (commit_made m s))) after → time ≡ (commit_made m s).time
queued-time v new m after label time t numbers s stands is step =
    let head : CommitHead = record { time = time; label = label; awaited = true } in
    let heads : last_time new.heads ≡ time = ap (λ (x : TransactionsValue). last_time x.heads) is ∙ last_time-push 0 v.heads head in
    let order : last (commit_order after) ≡ (commit_made m s).time =
    ap (λ (h : History Value). last h) (step-added IsValue m after (Decided s (submissions.Queues (commit_made m s))) step)
    ∙ last_after-append 0 (commit_order m) (commit_made m s ∷ []) in
    sym heads ∙ order-last new after stands ∙ order

pub ticket-time : (v new : TransactionsValue) (m after : Machine Value) (t : TxnValue) (label now : ℕ) (ticket : TicketValue)
    → JoinsQueue v label ticket.time t.writes new → StandsInMemory new after
    → Step IsValue m (event_of m (submission_of t label now) (Ok (submitted.Queued ticket))) after → ticket.time
    ≡ (commit_made m (submission_of t label now)).time
ticket-time v new m after t label now ticket joins stands step =
    queued-time v new m after label ticket.time t joins.numbers (submission_of t label now) stands joins.new_is step

-- ---- tickets

pub redeeming : (old new : TransactionsValue) (k : TicketValue) (r : Redeemed) → calls.Redeems old k r new → LeftByRedeem old k r new
redeeming old new k r redeems =
    by-mark (k.mark == old.mark) refl (is_awaited k.time old.heads) refl (nat_le k.time (last_published (calls.order_of old))) refl redeems
  where
    -- who is a stranger, by its mark or by what is awaited
    stranger : (k.mark ≡ old.mark → is_awaited k.time old.heads ≡ true → ⊥) → (r ≡ redeemed.Stranger) × (new ≡ old) → LeftByRedeem old k r new
    stranger none says = subst (λ (x : Redeemed). LeftByRedeem old k x new) (sym says.0) (says.1, none)

    by-failure : (b : Bool) → (r ≡ cond b redeemed.InDoubt (redeemed.Waiting k)) × (new ≡ old) → LeftByRedeem old k r new
    by-failure true says = subst (λ (x : Redeemed). LeftByRedeem old k x new) (sym says.0) says.1
    by-failure false says = subst (λ (x : Redeemed). LeftByRedeem old k x new) (sym says.0) (refl, says.1)

    by-mark : (a : Bool) → (k.mark == old.mark) ≡ a → (b : Bool) → is_awaited k.time old.heads ≡ b → (d : Bool)
        → nat_le k.time (last_published (calls.order_of old)) ≡ d
        → MatchBool a (calls.AnswersTicket old k (cond b (cond d ticket_state.Published ticket_state.Waiting) ticket_state.Unknown) r new) ((r
        ≡ redeemed.Stranger) × (new ≡ old)) → LeftByRedeem old k r new
    by-mark true own true waits true early says =
        let le : k.time ≤ last_published (calls.order_of old) = grind (arith, nat_tests) in
        subst (λ (x : Redeemed). LeftByRedeem old k x new) (sym says.0) (refl, waits, le, says.1)
    by-mark true own true waits false late says = by-failure old.failed says
    by-mark true own false none d is says = stranger (λ same waits. absurd cc) says
    by-mark false other b is d early says = stranger (λ same waits. absurd (grind (arith, nat_tests))) says

-- ---- steps of a group

-- what of a machine is published and waits, and its floors
pub record Front : Type 0 where
  pub published : History Value
  pub queue : History Value
  pub floors : ℕ → ℕ

abbrev front_of : Machine Value → Front
front_of m = record { published = m.published; queue = m.queue; floors = m.floors }

abbrev publishing : Front → ℕ → Front
publishing s count = record s { published = s.published ++ take count s.queue; queue = drop count s.queue }

none : (s : Front) → s ≡ publishing s 0
none s = ap (λ (h : History Value). record s { published = h }) (sym (append-nil s.published))

ended-front : (m n : Machine Value) (gate : Gate) (r : Result Did PumpFault) → Run IsValue m (ends_in gate r) n → front_of n
    ≡ publishing (front_of m) (count_in r)
ended-front m n gate (Ok (did.Published count)) run = ap front_of run.2 ∙ ap front_of run.1.4 ∙ ap (λ (k : ℕ). publishing (front_of m) k) (sym run.1.2)
ended-front m n gate (Ok did.Idle) run = ap front_of run ∙ none (front_of m)
ended-front m n gate (Ok did.WroteExtent) run = ap front_of run ∙ none (front_of m)
ended-front m n gate (Ok did.HeapSynced) run = ap front_of run ∙ none (front_of m)
ended-front m n gate (Ok did.BodyWritten) run = ap front_of run ∙ none (front_of m)
ended-front m n gate (Ok did.BodySynced) run = ap front_of run.2 ∙ ap front_of run.1.3 ∙ none (front_of m)
ended-front m n gate (Ok did.GateWritten) run = ap front_of run.2 ∙ ap front_of run.1.2 ∙ none (front_of m)
ended-front m n gate (Err pump.Busy) run = ap front_of run ∙ none (front_of m)
ended-front m n gate (Err pump.NoMemory) run = ap front_of run ∙ none (front_of m)
ended-front m n Shut (Err pump.Failed) run = ap front_of run.2 ∙ ap front_of run.1.1 ∙ none (front_of m)
ended-front m n (Due OfGroup) (Err pump.Failed) run = ap front_of run.2.2 ∙ ap front_of run.2.1.1 ∙ ap front_of run.1.2 ∙ none (front_of m)
ended-front m n (Due OfFloor) (Err pump.Failed) run = ap front_of run.2 ∙ ap front_of run.1.1 ∙ none (front_of m)
ended-front m n (MayBeOpen change) (Err pump.Failed) run = ap front_of run.2 ∙ ap front_of run.1.1 ∙ none (front_of m)

pump-front : (m n : Machine Value) (r : Result Did PumpFault) → Run IsValue m (begins_in m ++ ends_in m.gate r) n → front_of n
    ≡ publishing (front_of m) (count_in r)
pump-front m n r run = by-group ((m.group == 0) && nat_lt 0 (length m.queue)) run
  where
    by-group : (b : Bool) → Run IsValue m (cond b (GroupBegan ∷ []) [] ++ ends_in m.gate r) n → front_of n ≡ publishing (front_of m) (count_in r)
    by-group true run = ended-front run.0 n m.gate r run.2 ∙ ap (λ (x : Machine Value). publishing (front_of x) (count_in r)) run.1.3
    by-group false run = ended-front m n m.gate r run

pub pump-publishes : (m n : Machine Value) (r : Result Did PumpFault) → Run IsValue m (begins_in m ++ ends_in m.gate r) n → Publishes m n (count_in r)
pump-publishes m n r run =
    let is = pump-front m n r run in
    record { published = ap (λ (s : Front). s.published) is; queue = ap (λ (s : Front). s.queue) is; floors = ap (λ (s : Front). s.floors) is }
