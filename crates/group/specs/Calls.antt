-- The calls that ask nothing of the disk.
use Rattle.std.specs.Prelude.{ℕ, ◌≡◌, ◌≤◌, ◌==◌, true, false, [], length, None, Result, Ok, Err, MatchBool, if◌then◌else◌}
use Rattle.snapshot.specs.OpenTable.{snapshot_of, with_opened, least_free}
use Rattle.snapshot.specs.Txn.{TxnValue}
use Rattle.group.specs.CommitOrder as orders
use Rattle.group.specs.Tickets.{TicketValue}
use Rattle.group.specs.declared.commit_order.TicketState.TheVariants as ticket_state
use Rattle.group.specs.declared.commit_order.TicketState.{TicketState}
use Rattle.group.specs.declared.answers.BeginFault.{BeginFault}
use Rattle.group.specs.declared.answers.BeginFault.TheVariants as begin
use Rattle.group.specs.declared.answers.Redeemed.{Redeemed}
use Rattle.group.specs.declared.answers.Redeemed.TheVariants as redeemed
use Rattle.group.specs.Values.{TransactionsValue, is_own, over}

-- the commit order of these transactions
abbrev pub order_of : TransactionsValue → orders.CommitOrderValue
order_of v = record { heads = v.heads; published = v.published; room = 0 }

-- the time of the last published commit, 0 for none
abbrev pub last : TransactionsValue → ℕ
last v = orders.last_published (order_of v)

-- a new transaction reads what is published, and has the least number that no other open one has
pub record IsBegun (old : TransactionsValue) (txn : TxnValue) (new : TransactionsValue) : Type 0 where
  pub works : old.failed ≡ false
  pub mark : txn.mark ≡ old.mark
  pub snapshot : txn.snapshot ≡ last old
  pub state : txn.state ≡ old.versions
  pub writes : txn.writes ≡ []
  pub fresh : snapshot_of txn.number old.opened ≡ None
  pub least : txn.number ≡ least_free old.opened
  pub within : txn.number ≤ length old.opened
  pub new_is : new ≡ record old { opened = with_opened old.opened txn.number txn.snapshot }

-- what a begin answers: a new transaction, or that the store has failed or memory was refused
abbrev pub Begins : TransactionsValue → Result TxnValue BeginFault → TransactionsValue → Type 0
Begins old (Ok txn) new = IsBegun old txn new
Begins old (Err begin.NoMemory) new = (old.failed ≡ false) × (new ≡ old)
Begins old (Err begin.Failed) new = (old.failed ≡ true) × (new ≡ old)

-- a stranger is only spent
abbrev pub Aborts : TransactionsValue → TxnValue → TransactionsValue → Type 0
Aborts old txn new = new ≡ (if is_own old txn then over old txn.number else old)

-- the answer to a ticket whose commit stands so
abbrev pub AnswersTicket : TransactionsValue → TicketValue → TicketState → Redeemed → TransactionsValue → Type 0
AnswersTicket old ticket ticket_state.Unknown result new = (result ≡ redeemed.Stranger) × (new ≡ old)
AnswersTicket old ticket ticket_state.Published result new =
    (result ≡ redeemed.Done ticket.time) × (new ≡ record old { heads = orders.redeemed ticket.time old.heads })
AnswersTicket old ticket ticket_state.Waiting result new = (result ≡ (if old.failed then redeemed.InDoubt else redeemed.Waiting ticket)) × (new ≡ old)

-- what redeeming a ticket answers; one of another store is a stranger
abbrev pub Redeems : TransactionsValue → TicketValue → Redeemed → TransactionsValue → Type 0
Redeems old ticket result new = MatchBool (ticket.mark == old.mark) (AnswersTicket old ticket (orders.state_of_ticket ticket.time (order_of old)) result new)
    ((result ≡ redeemed.Stranger) × (new ≡ old))
