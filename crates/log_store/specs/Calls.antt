-- The calls of transactions, tickets and views.
use Rattle.std.specs.Prelude.{◌≡◌, Result}
use Rattle.group.specs.declared.answers.BeginFault.{BeginFault}
use Rattle.group.specs.declared.answers.Redeemed.{Redeemed}
use Rattle.group.specs.Tickets.{TicketValue}
use Rattle.snapshot.specs.Txn.{TxnValue}
use Rattle.commits.specs.Values.{CommitsValue}
use Rattle.commits.specs.Calls as commits
use Rattle.log_store.specs.Values.{LogStoreValue}

-- the store with these commits and transactions
abbrev pub with_commits : LogStoreValue → CommitsValue → LogStoreValue
with_commits v commits = record v { commits = commits }

-- a call of the commits in memory, which changes nothing else
pub record InMemory (call : CommitsValue → CommitsValue → Type 0) (old new : LogStoreValue) : Type 0 where
  pub is : call old.commits new.commits
  pub new_is : new ≡ with_commits old new.commits

-- what a begin answers
abbrev pub Begins : LogStoreValue → Result TxnValue BeginFault → LogStoreValue → Type 0
Begins old result new = InMemory (λ before after. commits.Begins before result after) old new

-- a transaction is given up
abbrev pub Aborts : LogStoreValue → TxnValue → LogStoreValue → Type 0
Aborts old txn new = InMemory (λ before after. commits.Aborts before txn after) old new

-- what redeeming a ticket answers
abbrev pub Redeems : LogStoreValue → TicketValue → Redeemed → LogStoreValue → Type 0
Redeems old ticket result new = InMemory (λ before after. commits.Redeems before ticket result after) old new
