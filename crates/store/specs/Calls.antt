-- What the store's calls do, each in one word.
use Rattle.std.specs.Prelude.{◌≡◌, ℕ, Bool, List, Option, Result}
use Rattle.std.specs.declared.alloc.Global.{Global}
use Rattle.std.specs.declared.vec.Vec.{Vec}
use Rattle.history.specs.declared.key.Key.{Key}
use Rattle.history.specs.declared.time.Version.{Version}
use Rattle.history.specs.Histories.{History}
use Rattle.chains.specs.Writes.{Value}
use Rattle.floors.specs.Floors.{FloorsValue}
use Rattle.archive.specs.declared.run.RunEntry.{RunEntry}
use Rattle.timequery.specs.Archives as archives
use Rattle.timequery.specs.Asked.{Holding}
use Rattle.timequery.specs.Asked as asked
use Rattle.timequery.specs.View.{ViewValue}
use Rattle.timequery.specs.declared.fault.QueryFault.{QueryFault}
use Rattle.snapshot.specs.Txn.{TxnValue}
use Rattle.group.specs.Tickets.{TicketValue}
use Rattle.group.specs.declared.answers.BeginFault.{BeginFault}
use Rattle.group.specs.declared.answers.Redeemed.{Redeemed}
use Rattle.group.specs.declared.answers.Submitted.{Submitted}
use Rattle.group.specs.declared.answers.SubmitFault.{SubmitFault}
use Rattle.group.specs.CommitOrder as orders
use Rattle.group.specs.Calls as calls
use Rattle.group.specs.Submits as submits
use Rattle.store.specs.Values.{StoreValue, HasRest}

-- the time of the last published commit, and the floors
abbrev pub last : StoreValue → ℕ
last v = calls.last v.transactions

-- the floors that stand
abbrev pub floors : StoreValue → FloorsValue
floors v = v.transactions.floors

-- a begin changes the transactions alone
pub record Begins (old : StoreValue) (answer : Result TxnValue BeginFault) (new : StoreValue) : Type 0 where
  pub transactions : calls.Begins old.transactions answer new.transactions
  pub rest : HasRest old new

-- an abort changes the transactions alone
pub record Aborts (old : StoreValue) (txn : TxnValue) (new : StoreValue) : Type 0 where
  pub transactions : calls.Aborts old.transactions txn new.transactions
  pub rest : HasRest old new

-- a redeem changes the transactions alone
pub record Redeems (old : StoreValue) (ticket : TicketValue) (answer : Redeemed) (new : StoreValue) : Type 0 where
  pub transactions : calls.Redeems old.transactions ticket answer new.transactions
  pub rest : HasRest old new

-- a submit changes the transactions alone
pub record Submits (old : StoreValue) (txn : TxnValue) (label now : ℕ) (answer : Result Submitted SubmitFault) (new : StoreValue) : Type 0 where
  pub transactions : submits.Submits old.transactions txn label now answer new.transactions
  pub rest : HasRest old new

-- a view of what is published now, over the runs of the log
abbrev pub IsViewOf : StoreValue → ViewValue → Type 0
IsViewOf v view = view ≡ record {
  mark = v.transactions.mark;
  last = last v;
  floors = floors v;
  reclaimed = v.transactions.reclaimed;
  runs = v.archive.runs;
  state = v.transactions.versions;
}

-- the times of the published commits with a label, rising
abbrev pub IsTimesOf : StoreValue → ℕ → List ℕ → Type 0
IsTimesOf v label times = times ≡ orders.times_of label (calls.order_of v.transactions)

-- ---- whose view it is

-- two runs are the same: by what their slots say, and by the mark and the floors before those
abbrev pub same_run : RunEntry → RunEntry → Bool
same_run a b = archives.same_run a b

-- the first list is a front of the second
abbrev pub is_front : List RunEntry → List RunEntry → Bool
is_front runs others = archives.is_front runs others

-- the view carries the store's mark, and its runs are a front of the store's
abbrev pub is_own : StoreValue → ViewValue → Bool
is_own v view = asked.is_own v.transactions.mark v.archive view

-- ---- queries

-- where a store has what is asked
abbrev pub in_store : Holding StoreValue
in_store = record { archive = λ v. v.archive; disk = λ v. v.disk; with_both = λ v archive disk. record v { archive = archive; disk = disk } }

-- A query changes nothing but what the reader keeps of the archive, and where a read was refused the count of such.
abbrev pub Asks : {T : Type 0} → Bool → StoreValue → ViewValue → Result T QueryFault → StoreValue → Type 0
Asks tells old view answer new = asked.Asks in_store tells old view answer new

-- what is found from a time on in an own view
abbrev pub Finds : {T : Type 0} → Bool → StoreValue → ViewValue → ℕ → (QueryFault → Type 0) → (T → Type 0) → (History Value → T → Type 0)
    → (Result T QueryFault → Type 0) → Result T QueryFault → StoreValue → Type 0
Finds tells old view from Refuses Recent OfHistory Exact answer new = asked.Finds in_store tells old view from Refuses Recent OfHistory Exact answer new

-- a stranger's view is refused first, and nothing has changed
abbrev pub OrStranger : {T : Type 0} → StoreValue → ViewValue → (Result T QueryFault → StoreValue → Type 0) → Result T QueryFault → StoreValue → Type 0
OrStranger v view Is answer new = asked.OrStranger (is_own v view) v Is answer new

-- the value of a key at a time, as the view's moment knows it
abbrev pub FindsAt : Bool → StoreValue → ViewValue → Key → ℕ → Result (Option Value) QueryFault → StoreValue → Type 0
FindsAt tells v view key time answer new = asked.FindsAt in_store tells v view key time answer new

-- an own view is asked for the value of a key at a time, and a stranger's is refused
abbrev pub AnswersAtView : Bool → StoreValue → ViewValue → Key → ℕ → Result (Option Value) QueryFault → StoreValue → Type 0
AnswersAtView tells v view key time answer new = asked.AnswersAtView in_store tells v.transactions.mark v view key time answer new

-- and the values of a relation
abbrev pub FindsScanAt : Bool → StoreValue → ViewValue → ℕ → ℕ → Result (Vec (ℕ × Value) Global) QueryFault → StoreValue → Type 0
FindsScanAt tells v view relation time answer new = asked.FindsScanAt in_store tells v view relation time answer new

-- an own view is asked for the values of a relation at a time, and a stranger's is refused
abbrev pub AnswersScanAt : Bool → StoreValue → ViewValue → ℕ → ℕ → Result (Vec (ℕ × Value) Global) QueryFault → StoreValue → Type 0
AnswersScanAt tells v view relation time answer new = asked.AnswersScanAt in_store tells v.transactions.mark v view relation time answer new

-- the rows of a key from a up to b
abbrev pub FindsRows : Bool → StoreValue → ViewValue → Key → ℕ → ℕ → Result (Vec (Version Value) Global) QueryFault → StoreValue → Type 0
FindsRows tells v view key a b answer new = asked.FindsRows in_store tells v view key a b answer new

-- an own view is asked for the rows of a key from a up to b, and a stranger's is refused
abbrev pub AnswersRows : Bool → StoreValue → ViewValue → Key → ℕ → ℕ → Result (Vec (Version Value) Global) QueryFault → StoreValue → Type 0
AnswersRows tells v view key a b answer new = asked.AnswersRows in_store tells v.transactions.mark v view key a b answer new

-- and those of a relation
abbrev pub FindsScanRows : Bool → StoreValue → ViewValue → ℕ → ℕ → ℕ → Result (Vec (ℕ × Version Value) Global) QueryFault → StoreValue → Type 0
FindsScanRows tells v view relation a b answer new = asked.FindsScanRows in_store tells v view relation a b answer new

-- an own view is asked for the rows of a relation from a up to b, and a stranger's is refused
abbrev pub AnswersScanRows : Bool → StoreValue → ViewValue → ℕ → ℕ → ℕ → Result (Vec (ℕ × Version Value) Global) QueryFault → StoreValue → Type 0
AnswersScanRows tells v view relation a b answer new = asked.AnswersScanRows in_store tells v.transactions.mark v view relation a b answer new
