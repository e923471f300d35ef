-- The calls that a line makes, and what is replied of their answers.
use Rattle.std.specs.Prelude.{ℕ, ◌≡◌, ◌≢◌, ◌⊎◌, ◌+◌, List, [], ◌∷◌, ◌++◌, length, map, Option, Result, Ok, Err, MatchOption}
use Rattle.std.specs.List.{AllByRecursion}
use denote.Ref.{Bor}
use Rattle.std.specs.declared.alloc.AllocError.{AllocError}
use Rattle.std.specs.declared.alloc.Global.{Global}
use Rattle.std.specs.declared.vec.Vec.{Vec}
use Rattle.history.specs.declared.key.Key.{Key}
use Rattle.history.specs.declared.time.Version.{Version}
use Rattle.history.specs.Histories.{last}
use Rattle.group.specs.declared.answers.BeginFault.{BeginFault}
use Rattle.group.specs.declared.answers.SubmitFault.{SubmitFault}
use Rattle.group.specs.declared.answers.PumpFault.{PumpFault}
use Rattle.snapshot.specs.declared.txn.TxnFault.{TxnFault}
use Rattle.snapshot.specs.declared.txn.TxnFault.TheVariants as txn
use Rattle.timequery.specs.declared.fault.QueryFault.{QueryFault}
use Rattle.timequery.specs.declared.fault.QueryFault.TheVariants as query
use Rattle.store.specs.declared.job.StartFault.{StartFault}
use Rattle.any_store.specs.declared.steps.Did.{Did}
use Rattle.any_store.specs.declared.steps.Did.TheVariants as did
use Rattle.any_store.specs.declared.steps.JobDid.{JobDid}
use Rattle.any_store.specs.declared.steps.JobDid.TheVariants as job_did
use Rattle.script.specs.declared.line.Line.{Line}
use Rattle.script.specs.declared.line.Line.TheVariants as line
use Rattle.session.specs.Session.{txn_place, ticket_place, IfTest, is_taken, IsLast}
use Rattle.session.specs.Session as session
use Rattle.session.specs.Texts.{Text}
use Rattle.session.specs.declared.fault.Fault.TheVariants as fault
use Rattle.session.specs.declared.reply.Reply.{Reply}
use Rattle.session.specs.declared.reply.Reply.TheVariants as reply
use Rattle.run.specs.declared.calls.Call.{Call}
use Rattle.run.specs.declared.calls.Call.TheVariants as call
use Rattle.run.specs.declared.calls.Answer.{Answer}
use Rattle.run.specs.declared.calls.Answer.TheVariants as answer
use Rattle.run.specs.declared.calls.SubmitOutcome.{SubmitOutcome}
use Rattle.run.specs.declared.calls.SubmitOutcome.TheVariants as outcome
use Rattle.run.specs.declared.calls.RedeemOutcome.{RedeemOutcome}
use Rattle.run.specs.declared.calls.RedeemOutcome.TheVariants as told
use Rattle.law_script.specs.ScriptMoments.{ScriptMoment, held_of}

-- ---- how many calls

-- calls, with an answer to each
pub record Exchange : Type 0 where
  pub calls : List Call
  pub answers : List Answer

-- no call is made
abbrev pub no_call : Exchange
no_call = record { calls = []; answers = [] }

-- one call is made, and has this answer
abbrev pub one_call : Call → Answer → Exchange
one_call c a = record { calls = c ∷ []; answers = a ∷ [] }

-- a view is taken into the next place, asked, and ended
abbrev pub by_view : ℕ → Call → Answer → Exchange
by_view place c a = record { calls = call.View ∷ c ∷ call.End place ∷ []; answers = answer.View (Ok tt) ∷ a ∷ answer.End ∷ [] }

-- ---- what is replied of an answer

-- the reply to a begin: the snapshot, or the refusal
abbrev pub of_begin : ℕ → Result (Unit {0}) BeginFault → Reply
of_begin time (Ok u) = reply.Snapshot time
of_begin time (Err why) = reply.Refused (fault.Begin why)

-- the reply to a submit: the snapshot of what only read, that it is queued, or the refusal
abbrev pub of_submit : Result SubmitOutcome SubmitFault → Reply
of_submit (Ok (outcome.ReadOnly time)) = reply.ReadOnly time
of_submit (Ok outcome.Queued) = reply.Queued
of_submit (Err why) = reply.Refused (fault.Submit why)

-- the reply to a redeem: what the ticket is redeemed for, or that it is a stranger's
abbrev pub of_redeem : RedeemOutcome → Reply
of_redeem (told.Done time) = reply.Done time
of_redeem told.Waiting = reply.Waiting
of_redeem told.InDoubt = reply.InDoubt
of_redeem told.Stranger = reply.Refused fault.Stranger

-- ---- lines

-- no call is made, since the name stands for nothing or is taken
abbrev pub RefusesName : Exchange → Reply → Type 0
RefusesName made r = (made ≡ no_call) × (r ≡ reply.Refused fault.Name)

-- a transaction reads what is published at its begin
abbrev pub SaysBegin : ScriptMoment → Exchange → Reply → Type 0
SaysBegin m made r = (said : Result (Unit {0}) BeginFault) × (made ≡ one_call call.Begin (answer.Begin said)) × (r ≡ of_begin (last m.machine.published) said)

-- there is no memory for the fields, or they are put
abbrev pub SaysPut : ℕ → Key → List Text → Exchange → Reply → Type 0
SaysPut i key fields made r = ((made ≡ no_call) × (r ≡ reply.Refused (fault.Txn txn.NoMemory)))
    ⊎ ((parts : Bor (List (Bor Text))) × (said : Result (Unit {0}) TxnFault) × (map (λ (part : Bor Text). part.now) parts.now ≡ fields)
    × (made ≡ one_call (call.Put i key parts) (answer.Put said)) × (r ≡ session.done said))

-- the key is deleted in the transaction of this place, and what that answered is replied
abbrev pub SaysDelete : ℕ → Key → Exchange → Reply → Type 0
SaysDelete i key made r = (said : Result (Unit {0}) TxnFault) × (made ≡ one_call (call.Delete i key) (answer.Delete said)) × (r ≡ session.done said)

-- the transaction of this place is asked for the key, and what it sees is replied
abbrev pub SaysGet : ℕ → Key → Exchange → Reply → Type 0
SaysGet i key made r = (said : Result (Option (List Text)) AllocError) × (made ≡ one_call (call.Get i key) (answer.Get said)) × (r ≡ session.seen said)

-- the transaction of this place is submitted, and what becomes of it is replied
abbrev pub SaysSubmit : ℕ → ℕ → ℕ → Exchange → Reply → Type 0
SaysSubmit i label now made r =
    (said : Result SubmitOutcome SubmitFault) × (made ≡ one_call (call.Submit i label now) (answer.Submit said)) × (r ≡ of_submit said)

-- the transaction of this place is aborted
abbrev pub SaysAbort : ℕ → Exchange → Reply → Type 0
SaysAbort i made r = (made ≡ one_call (call.Abort i) answer.Abort) × (r ≡ reply.Ok)

-- the ticket of this place is redeemed, and what that answered is replied
abbrev pub SaysRedeem : ℕ → Exchange → Reply → Type 0
SaysRedeem i made r = (said : RedeemOutcome) × (made ≡ one_call (call.Redeem i) (answer.Redeem said)) × (r ≡ of_redeem said)

-- one step of a group is taken, and what it did is replied
abbrev pub SaysPump : Exchange → Reply → Type 0
SaysPump made r = (said : Result Did PumpFault) × (made ≡ one_call call.Pump (answer.Pump said)) × (r ≡ session.pumped said)

-- steps are taken until one finds nothing to do or is refused, and what it said is replied
pub record SaysFlush (made : Exchange) (r : Reply) : Type 0 where
  pub steps : List Did
  pub ended : Result Did PumpFault
  pub calls : made.calls ≡ map (λ (step : Did). call.Pump) steps ++ call.Pump ∷ []
  pub answers : made.answers ≡ map (λ (step : Did). answer.Pump (Ok step)) steps ++ answer.Pump ended ∷ []
  pub go_on : AllByRecursion (λ (step : Did). step ≢ did.Idle) steps
  pub ends : IsLast did.Idle ended
  pub reply : r ≡ session.pumped ended

-- a view of now is asked, or there is no memory for it
abbrev pub ByView : ScriptMoment → Exchange → Call → Answer → Reply → Reply → Type 0
ByView m made c a r said = (made ≡ by_view (length (held_of m.state)) c a) × (r ≡ said)

-- there is no memory for a view, and nothing is asked
abbrev pub LacksView : Exchange → Reply → Type 0
LacksView made r = (why : AllocError) × (made ≡ one_call call.View (answer.View (Err why))) × (r ≡ reply.Refused (fault.Query query.NoMemory))

-- a view of now is asked for the value of the key at the time, or there is no memory for it
abbrev pub SaysAt : ScriptMoment → Key → ℕ → Exchange → Reply → Type 0
SaysAt m key time made r =
    LacksView made r ⊎ ((said : Result (Option (List Text)) QueryFault)
    × ByView m made (call.At (length (held_of m.state)) key time) (answer.At said) r (session.found said))

-- a view of now is asked for the values of the relation at the time, or there is no memory for it
abbrev pub SaysScan : ScriptMoment → ℕ → ℕ → Exchange → Reply → Type 0
SaysScan m relation time made r =
    LacksView made r ⊎ ((said : Result (Vec (ℕ × List Text) Global) QueryFault)
    × ByView m made (call.ScanAt (length (held_of m.state)) relation time) (answer.ScanAt said) r (session.records_found said))

-- a view of now is asked for the rows of the key from a to b, or there is no memory for it
abbrev pub SaysBetween : ScriptMoment → Key → ℕ → ℕ → Exchange → Reply → Type 0
SaysBetween m key a b made r =
    LacksView made r ⊎ ((said : Result (Vec (Version (List Text)) Global) QueryFault)
    × ByView m made (call.Between (length (held_of m.state)) key a b) (answer.Between said) r (session.rows_found said))

-- the store is asked for the times of the label, and they are replied, or why that is refused
abbrev pub SaysTimes : ℕ → Exchange → Reply → Type 0
SaysTimes label made r =
    (said : Result (Vec ℕ Global) QueryFault) × (made ≡ one_call (call.TimesOf label) (answer.TimesOf said)) × (r ≡ session.times_found said)

-- an archive is started, or refused
abbrev pub SaysArchive : ℕ → Exchange → Reply → Type 0
SaysArchive upto made r = (said : Result (Unit {0}) StartFault) × (made ≡ one_call (call.Archive upto) (answer.Archive said)) × (r ≡ session.started said)

-- a reclaim is started, or refused
abbrev pub SaysReclaim : Exchange → Reply → Type 0
SaysReclaim made r = (said : Result (Unit {0}) StartFault) × (made ≡ one_call call.Reclaim (answer.Reclaim said)) × (r ≡ session.started said)

-- a floor is started, or refused
abbrev pub SaysFloor : Option ℕ → ℕ → Exchange → Reply → Type 0
SaysFloor scope floor made r =
    (said : Result (Unit {0}) StartFault) × (made ≡ one_call (call.Floor scope floor) (answer.Floor said)) × (r ≡ session.started said)

-- a growth is started, or refused
abbrev pub SaysGrow : Exchange → Reply → Type 0
SaysGrow made r = (said : Result (Unit {0}) StartFault) × (made ≡ one_call call.Grow (answer.Grow said)) × (r ≡ session.started said)

-- one step of a job is taken, and what it did is replied
abbrev pub SaysJob : Exchange → Reply → Type 0
SaysJob made r = (said : Result JobDid PumpFault) × (made ≡ one_call call.JobPump (answer.JobPump said)) × (r ≡ session.worked said)

-- steps of a job are taken until one finds nothing to do or is refused, and what it said is replied
pub record SaysFinish (made : Exchange) (r : Reply) : Type 0 where
  pub steps : List JobDid
  pub ended : Result JobDid PumpFault
  pub calls : made.calls ≡ map (λ (step : JobDid). call.JobPump) steps ++ call.JobPump ∷ []
  pub answers : made.answers ≡ map (λ (step : JobDid). answer.JobPump (Ok step)) steps ++ answer.JobPump ended ∷ []
  pub go_on : AllByRecursion (λ (step : JobDid). step ≢ job_did.Idle) steps
  pub ends : IsLast job_did.Idle ended
  pub reply : r ≡ session.worked ended

-- At this moment a line makes these calls, and what is replied is what their answers say. A name stands for its place; one that stands for nothing, or is
-- taken, is refused. A `reopen` is no call.
abbrev pub Says : ScriptMoment → Line → Exchange → Reply → Type 0
Says m (line.Begin name) made r = IfTest (is_taken name m.state) (RefusesName made r) (SaysBegin m made r)
Says m (line.Put name key fields) made r = MatchOption (txn_place name m.state) (RefusesName made r) (λ i. SaysPut i key fields made r)
Says m (line.Delete name key) made r = MatchOption (txn_place name m.state) (RefusesName made r) (λ i. SaysDelete i key made r)
Says m (line.Get name key) made r = MatchOption (txn_place name m.state) (RefusesName made r) (λ i. SaysGet i key made r)
Says m (line.Submit name label now) made r = MatchOption (txn_place name m.state) (RefusesName made r) (λ i. SaysSubmit i label now made r)
Says m (line.Abort name) made r = MatchOption (txn_place name m.state) (RefusesName made r) (λ i. SaysAbort i made r)
Says m (line.Redeem name) made r = MatchOption (ticket_place name m.state) (RefusesName made r) (λ i. SaysRedeem (length m.state.opened + i) made r)
Says m line.Pump made r = SaysPump made r
Says m line.Flush made r = SaysFlush made r
Says m (line.At key time) made r = SaysAt m key time made r
Says m (line.Between key a b) made r = SaysBetween m key a b made r
Says m (line.Scan relation time) made r = SaysScan m relation time made r
Says m (line.Times label) made r = SaysTimes label made r
Says m (line.Archive upto) made r = SaysArchive upto made r
Says m line.Reclaim made r = SaysReclaim made r
Says m (line.Floor scope floor) made r = SaysFloor scope floor made r
Says m line.Grow made r = SaysGrow made r
Says m line.Job made r = SaysJob made r
Says m line.Finish made r = SaysFinish made r
Says m line.Reopen made r = ⊥
