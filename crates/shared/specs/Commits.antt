-- What a call of `commit` comes to.
use Rattle.std.specs.Prelude.{◌≡◌, ◌<◌, ℕ, true, List, [], map, Contains, Result, Ok, Err}
use Rattle.history.specs.Histories.{History, IsHistory, last, state}
use Rattle.history.specs.Machine.{Machine}
use Rattle.law_image.specs.Values.{Value, IsValue}
use Rattle.snapshot.specs.declared.txn.TxnFault.{TxnFault}
use Rattle.snapshot.specs.declared.txn.TxnFault.TheVariants as txn_fault
use Rattle.group.specs.Tickets.{TicketValue}
use Rattle.group.specs.declared.answers.BeginFault.TheVariants as begin
use Rattle.group.specs.declared.answers.Submitted.{Submitted}
use Rattle.group.specs.declared.answers.Submitted.TheVariants as submitted
use Rattle.group.specs.declared.answers.SubmitFault.{SubmitFault}
use Rattle.shared.specs.declared.change.Change.{Change}
use Rattle.shared.specs.declared.committed.Committed.{Committed}
use Rattle.shared.specs.declared.committed.Committed.TheVariants as committed
use Rattle.shared.specs.declared.committed.CommitFault.{CommitFault}
use Rattle.shared.specs.declared.committed.CommitFault.TheVariants as fault
use Rattle.shared.specs.Posted.{Asked, AreBarred, HaveBadValue, write_of, written}
use Rattle.shared.specs.Seen.{Seen, order_of, IsFrontOf, IsLater}
use Rattle.shared.specs.Shared.{HasCommitAt}

-- how many commits an answer to `commit` says are published
abbrev pub commits_in : Result Committed CommitFault → ℕ
commits_in (Ok (committed.Done time)) = 1
commits_in (Ok (committed.ReadOnly time)) = 0
commits_in (Err why) = 0

-- What waiting for a ticket came to. The ticket of a commit that was queued is a stranger's only once the commit is published.
abbrev pub WaitSays : ℕ → TicketValue → Result Committed CommitFault → Seen → Type 0
WaitSays brand ticket (Ok (committed.Done time)) seen = (time ≡ ticket.time) × HasCommitAt seen.published time × IsHistory IsValue (order_of seen)
WaitSays brand ticket (Ok (committed.ReadOnly time)) seen = ⊥
WaitSays brand ticket (Err (fault.Begin why)) seen = ⊥
WaitSays brand ticket (Err (fault.Txn why)) seen = ⊥
WaitSays brand ticket (Err (fault.Submit why)) seen = ⊥
WaitSays brand ticket (Err fault.InDoubt) seen = (last seen.published < ticket.time) × (seen.failed ≡ true)
WaitSays brand ticket (Err fault.Stranger) seen = ticket.mark ≡ brand → HasCommitAt seen.queue ticket.time → ⊥

-- these changes of a snapshot of what was seen are published as one commit of this time
pub record ArePublished (changes : List Change) (label time : ℕ) (seen : Seen) : Type 0 where
  pub snapshot : History Value
  pub front : IsFrontOf snapshot seen.published
  pub has : Contains seen.published (record { time = time; label = label; writes = written (state snapshot (last snapshot)) [] (map write_of changes) })

-- they come to no write
pub record AreNone (changes : List Change) (time : ℕ) (seen : Seen) : Type 0 where
  pub snapshot : History Value
  pub front : IsFrontOf snapshot seen.published
  pub time_is : time ≡ last snapshot
  pub none : written (state snapshot (last snapshot)) [] (map write_of changes) ≡ []

-- one of them cannot be made
pub record AreRefused (changes : List Change) (why : TxnFault) (seen : Seen) : Type 0 where
  pub snapshot : History Value
  pub front : IsFrontOf snapshot seen.published
  pub barred : AreBarred (state snapshot (last snapshot)) [] (map write_of changes) why

-- a transaction with these changes was submitted, and that was answered so, at a moment that is seen now
pub record AreSubmitted (start : Machine Value) (brand : ℕ) (changes : List Change) (label : ℕ) (result : Result Submitted SubmitFault) (seen : Seen) : Type 0
  where
    pub moment : Seen
    pub asked : Asked start brand (map write_of changes) label result moment
    pub later : IsLater moment seen

-- their commit was queued, and the store has failed before it was published
pub record AreInDoubt (start : Machine Value) (brand : ℕ) (changes : List Change) (label : ℕ) (seen : Seen) : Type 0 where
  pub ticket : TicketValue
  pub queued : AreSubmitted start brand changes label (Ok (submitted.Queued ticket)) seen
  pub early : last seen.published < ticket.time
  pub failed : seen.failed ≡ true

-- The changes are published as one commit, with the time that was answered, or they come to none. Or the store has failed or memory was refused; a change could
-- not be made; the submit was refused, as the store refuses it; the store failed while the commit waited; or it is published, and its ticket was redeemed by
-- another.
abbrev pub CommitHappens : Machine Value → ℕ → List Change → ℕ → Result Committed CommitFault → Seen → Type 0
CommitHappens start brand changes label (Ok (committed.Done time)) seen = ArePublished changes label time seen
CommitHappens start brand changes label (Ok (committed.ReadOnly time)) seen = AreNone changes time seen
CommitHappens start brand changes label (Err (fault.Begin begin.NoMemory)) seen = Unit {0}
CommitHappens start brand changes label (Err (fault.Begin begin.Failed)) seen = seen.failed ≡ true
CommitHappens start brand changes label (Err (fault.Txn txn_fault.NoMemory)) seen = Unit {0}
CommitHappens start brand changes label (Err (fault.Txn txn_fault.BadValue)) seen = HaveBadValue (map write_of changes)
CommitHappens start brand changes label (Err (fault.Txn txn_fault.TooManyKeys)) seen = AreRefused changes txn_fault.TooManyKeys seen
CommitHappens start brand changes label (Err (fault.Txn txn_fault.Missing)) seen = AreRefused changes txn_fault.Missing seen
CommitHappens start brand changes label (Err (fault.Submit why)) seen = AreSubmitted start brand changes label (Err why) seen
CommitHappens start brand changes label (Err fault.InDoubt) seen = AreInDoubt start brand changes label seen
CommitHappens start brand changes label (Err fault.Stranger) seen = (time : ℕ) × ArePublished changes label time seen
