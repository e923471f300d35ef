-- What the places of a list of calls hold, and what of a store's history each stands for.
use Rattle.std.specs.Prelude.{ℕ, ◌≡◌, ◌≤◌, ◌⊎◌, Bool, true, zero, suc, List, [], ◌∷◌, length, slice_get, Option, None, Some, Result, Ok, Err}
use Rattle.std.specs.Borrow.{Bor}
use Rattle.std.specs.Option.{option_copied}
use Rattle.std.specs.declared.alloc.AllocError.{AllocError}
use Rattle.history.specs.declared.key.Key.{Key}
use Rattle.history.specs.declared.key.KeyWrite.{KeyWrite}
use Rattle.history.specs.Histories.{History, last, state}
use Rattle.law_image.specs.Values.{Value}
use Rattle.snapshot.specs.OpenTable.{snapshot_of}
use Rattle.snapshot.specs.Txn.{TxnValue, at_snapshot}
use Rattle.group.specs.CommitOrder.{is_awaited}
use Rattle.group.specs.Tickets.{TicketValue}
use Rattle.group.specs.declared.answers.BeginFault.{BeginFault}
use Rattle.group.specs.declared.answers.Redeemed.{Redeemed}
use Rattle.group.specs.declared.answers.Redeemed.TheVariants as redeemed
use Rattle.group.specs.declared.answers.Submitted.{Submitted}
use Rattle.group.specs.declared.answers.Submitted.TheVariants as submitted
use Rattle.group.specs.declared.answers.SubmitFault.{SubmitFault}
use Rattle.timequery.specs.View.{ViewValue}
use Rattle.timequery.specs.declared.fault.QueryFault.{QueryFault}
use Rattle.timequery.specs.declared.fault.QueryFault.TheVariants as query
use Rattle.commits.specs.Values.{CommitsValue}
use Rattle.any_store.specs.Values.{StoreValue}
use Rattle.law_refinement.specs.Homes.{ViewStands}
use Rattle.law_any_store.specs.Standing.{ViewReads}
use Rattle.run.specs.declared.calls.Answer.{Answer}
use Rattle.run.specs.declared.calls.Answer.TheVariants as answer
use Rattle.run.specs.declared.calls.SubmitOutcome.TheVariants as outcome
use Rattle.run.specs.declared.calls.RedeemOutcome.TheVariants as told
use Rattle.run.specs.declared.held.Held.{Held}
use Rattle.run.specs.declared.held.Held.TheVariants as held

-- what the place of a call holds
pub data Place : Type 0 where
  Free : Place
  -- a transaction, by the time whose state it reads and what it has written
  Running : ℕ → List (KeyWrite Value) → Place
  -- the ticket of the commit of this time
  Waits : ℕ → Place
  -- a view, by the published history, the floors and the reclaim mark of its moment
  Views : History Value → (ℕ → ℕ) → ℕ → Place

-- what a place holds: nothing past the end
abbrev pub place_at : List Place → ℕ → Place
place_at [] i = Free
place_at (p ∷ ps) zero = p
place_at (p ∷ ps) (suc i) = place_at ps i

-- the place holds no transaction
abbrev pub IsNoTransaction : Place → Type 0
IsNoTransaction Free = Unit {0}
IsNoTransaction (Running snapshot writes) = ⊥
IsNoTransaction (Waits time) = Unit {0}
IsNoTransaction (Views history floors reclaimed) = Unit {0}

-- the place holds no ticket
abbrev pub IsNoTicket : Place → Type 0
IsNoTicket Free = Unit {0}
IsNoTicket (Running snapshot writes) = Unit {0}
IsNoTicket (Waits time) = ⊥
IsNoTicket (Views history floors reclaimed) = Unit {0}

-- the place holds no view
abbrev pub IsNoView : Place → Type 0
IsNoView Free = Unit {0}
IsNoView (Running snapshot writes) = Unit {0}
IsNoView (Waits time) = Unit {0}
IsNoView (Views history floors reclaimed) = ⊥

-- ---- what a place of the store's callers holds

-- the callers hold no transaction there
abbrev pub HasNoTransaction : Option Held → Type 0
HasNoTransaction None = Unit {0}
HasNoTransaction (Some held.Nothing) = Unit {0}
HasNoTransaction (Some (held.Transaction txn)) = ⊥
HasNoTransaction (Some (held.Ticket ticket)) = Unit {0}
HasNoTransaction (Some (held.View view)) = Unit {0}

-- the callers hold no ticket there
abbrev pub HasNoTicket : Option Held → Type 0
HasNoTicket None = Unit {0}
HasNoTicket (Some held.Nothing) = Unit {0}
HasNoTicket (Some (held.Transaction txn)) = Unit {0}
HasNoTicket (Some (held.Ticket ticket)) = ⊥
HasNoTicket (Some (held.View view)) = Unit {0}

-- the callers hold no view there
abbrev pub HasNoView : Option Held → Type 0
HasNoView None = Unit {0}
HasNoView (Some held.Nothing) = Unit {0}
HasNoView (Some (held.Transaction txn)) = Unit {0}
HasNoView (Some (held.Ticket ticket)) = Unit {0}
HasNoView (Some (held.View view)) = ⊥

-- the transaction that the callers hold there, if it is one
abbrev pub transaction_in : Option Held → Option TxnValue
transaction_in None = None
transaction_in (Some held.Nothing) = None
transaction_in (Some (held.Transaction txn)) = Some txn
transaction_in (Some (held.Ticket ticket)) = None
transaction_in (Some (held.View view)) = None

-- the view that the callers hold there, if it is one
abbrev pub view_in : Option Held → Option ViewValue
view_in None = None
view_in (Some held.Nothing) = None
view_in (Some (held.Transaction txn)) = None
view_in (Some (held.Ticket ticket)) = None
view_in (Some (held.View view)) = Some view

-- ---- the store's own

-- an open transaction of the store, which reads the history at its snapshot
pub record IsOwnTransaction (v : CommitsValue) (h : History Value) (txn : TxnValue) : Type 0 where
  pub mark : txn.mark ≡ v.mark
  pub number : snapshot_of txn.number v.opened ≡ Some txn.snapshot
  pub published : txn.snapshot ≤ last h
  pub reads : (key : Key) → at_snapshot txn.state txn.snapshot key ≡ state h txn.snapshot key

-- a ticket of the store that is not redeemed yet
pub record IsOwnTicket (v : CommitsValue) (ticket : TicketValue) : Type 0 where
  pub mark : ticket.mark ≡ v.mark
  pub awaited : is_awaited ticket.time v.heads ≡ true

-- What is held is the store's own, whose published history this is, and stands for this.
abbrev pub ShowsAs : CommitsValue → History Value → Held → Place → Type 0
ShowsAs v h held.Nothing Free = Unit {0}
ShowsAs v h (held.Transaction txn) (Running snapshot writes) = IsOwnTransaction v h txn × (txn.snapshot ≡ snapshot) × (txn.writes ≡ writes)
ShowsAs v h (held.Ticket ticket) (Waits time) = IsOwnTicket v ticket × (ticket.time ≡ time)
ShowsAs v h (held.View view) (Views history floors reclaimed) = (view.mark ≡ v.mark) × (view.reclaimed ≡ reclaimed) × ViewStands view history floors
ShowsAs v h x p = ⊥

-- what a held view reads is there
abbrev pub IsRead : Bool → StoreValue → Held → Place → Type 0
IsRead tells v (held.View view) (Views history floors reclaimed) = ViewReads tells v view history floors
IsRead tells v x p = Unit {0}

-- what each held view reads is there
pub record AreRead (tells : Bool) (v : StoreValue) (xs : List Held) (ps : List Place) : Type 0 where
  pub each : (i : ℕ) (x : Held) → slice_get xs i ≡ Some x → IsRead tells v x (place_at ps i)

-- the store could not tell the two apart
abbrev pub Clash : Held → Held → Type 0
Clash (held.Transaction a) (held.Transaction b) = a.number ≡ b.number
Clash (held.Ticket a) (held.Ticket b) = a.time ≡ b.time
Clash a b = ⊥

-- each place stands for its own, and no two hold the same
pub record ArePlaces (v : CommitsValue) (h : History Value) (xs : List Held) (ps : List Place) : Type 0 where
  pub many : length xs ≡ length ps
  pub each : (i : ℕ) (x : Held) → slice_get xs i ≡ Some x → ShowsAs v h x (place_at ps i)
  pub apart : (i j : ℕ) (a b : Held) → slice_get xs i ≡ Some a → slice_get xs j ≡ Some b → Clash a b → i ≡ j

-- ---- the answer to a call, and what its place holds

-- what a begin answers, and what its place holds: the transaction, or nothing
abbrev pub begin_answer : Result TxnValue BeginFault → Answer × Held
begin_answer (Ok txn) = (answer.Begin (Ok tt), held.Transaction txn)
begin_answer (Err why) = (answer.Begin (Err why), held.Nothing)

-- what a submit answers, and what its place holds: the ticket of a commit that is queued, or nothing
abbrev pub submit_answer : Result Submitted SubmitFault → Answer × Held
submit_answer (Ok (submitted.ReadOnly snapshot)) = (answer.Submit (Ok (outcome.ReadOnly snapshot)), held.Nothing)
submit_answer (Ok (submitted.Queued ticket)) = (answer.Submit (Ok outcome.Queued), held.Ticket ticket)
submit_answer (Err why) = (answer.Submit (Err why), held.Nothing)

-- what a redeem answers, and what the ticket's place then holds: the ticket while it waits, or nothing
abbrev pub redeem_answer : Redeemed → Answer × Held
redeem_answer (redeemed.Done time) = (answer.Redeem (told.Done time), held.Nothing)
redeem_answer (redeemed.Waiting ticket) = (answer.Redeem told.Waiting, held.Ticket ticket)
redeem_answer redeemed.InDoubt = (answer.Redeem told.InDoubt, held.Nothing)
redeem_answer redeemed.Stranger = (answer.Redeem told.Stranger, held.Nothing)

-- what the taking of a view answers, and what its place holds: the view, or nothing
abbrev pub view_answer : Result ViewValue AllocError → Answer × Held
view_answer (Ok view) = (answer.View (Ok tt), held.View view)
view_answer (Err why) = (answer.View (Err why), held.Nothing)

-- what was found, without the loan
abbrev pub copied : Result (Option (Bor Value)) QueryFault → Result (Option Value) QueryFault
copied (Ok found) = Ok (option_copied found)
copied (Err why) = Err why

-- what is found is answered with a holder of its own, for which there may be no memory
abbrev pub IsShared : Result (Option Value) QueryFault → Result (Option Value) QueryFault → Type 0
IsShared (Ok None) said = said ≡ Ok None
IsShared (Ok (Some value)) said = (said ≡ Ok (Some value)) ⊎ (said ≡ Err query.NoMemory)
IsShared (Err why) said = said ≡ Err why
