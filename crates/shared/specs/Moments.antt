-- What views and transactions of a shared store answer, by the history and the floors of their moment.
use Rattle.std.specs.Prelude.{ℕ, ◌≡◌, Option, Some, Result, Ok, Err, unwrap_or}
use Rattle.std.specs.Borrow.{Bor}
use Rattle.std.specs.Option.{option_copied}
use Rattle.history.specs.declared.key.Key.{Key}
use Rattle.history.specs.Key.{write_in}
use Rattle.history.specs.Histories.{last, state}
use Rattle.history.specs.Machine.{Machine}
use Rattle.law_image.specs.Values.{Value}
use Rattle.snapshot.specs.Txn.{TxnValue, at_snapshot}
use Rattle.group.specs.declared.answers.BeginFault.{BeginFault}
use Rattle.timequery.specs.View.{ViewValue}
use Rattle.timequery.specs.declared.fault.QueryFault.{QueryFault}
use Rattle.shared.specs.Reached.{Reached}
use Rattle.shared.specs.Tokens.{Token}
use Rattle.shared.specs.Seen.{Seen, seen_of, IsFrontOf, IsLater}

-- a view, and the commits and the floors that its caller had seen when it was taken
pub record ViewMoment : Type 0 where
  pub shown : ViewValue
  pub seen : Seen

-- the view shows all commits that a caller had seen published, and its moment is one that the caller has seen now
abbrev pub HoldsSeen : Seen → Seen → ViewMoment → Type 0
HoldsSeen old new v = IsFrontOf old.published v.seen.published × IsLater v.seen new

-- a transaction, and the commits and the floors that its caller had seen when it began
pub record TxnMoment : Type 0 where
  pub txn : TxnValue
  pub seen : Seen

-- this holds of a state that steps lead to, of which this was seen: its published history and its floors are those
abbrev pub OfSeen : Machine Value → Seen → (Machine Value → Type 0) → Type 0
OfSeen start seen Holds = (m : Machine Value) × Reached start m × (seen ≡ seen_of m) × Holds m

-- the transaction reads the published history of its moment
pub record WorksOn (start : Machine Value) (brand : ℕ) (txn : TxnValue) (seen : Seen) : Type 0 where
  pub machine : Machine Value
  pub reached : Reached start machine
  pub seen_is : seen ≡ seen_of machine
  pub mark : txn.mark ≡ brand
  pub snapshot : txn.snapshot ≡ last seen.published
  pub reads : (key : Key) → at_snapshot txn.state txn.snapshot key ≡ state seen.published (last seen.published) key

-- the pass that goes with a transaction: what was seen when it began, and its token
pub record TxnPassValue : Type 0 where
  pub seen : Seen
  pub token : Option Token

-- a transaction's token
abbrev pub token_of : TxnValue → Token
token_of t = record { number = t.number; snapshot = t.snapshot }

-- the transaction works on what was seen when it began, and goes with its own pass
abbrev pub GoesWith : Machine Value → ℕ → TxnValue → TxnPassValue → Type 0
GoesWith start brand txn pass = WorksOn start brand txn pass.seen × (pass.token ≡ Some (token_of txn))

-- what a transaction sees of a key: its own write, or else the value in the history of its moment
abbrev pub value_for : TxnMoment → Key → Option Value
value_for t key = unwrap_or (write_in t.txn.writes key) (state t.seen.published (last t.seen.published) key)

-- an answer that lends a value
abbrev pub answer_copied : Result (Option (Bor Value)) QueryFault → Result (Option Value) QueryFault
answer_copied (Ok found) = Ok (option_copied found)
answer_copied (Err fault) = Err fault

-- the transaction of an answer to a begin
abbrev pub begun_txn : Result TxnMoment BeginFault → Result TxnValue BeginFault
begun_txn (Ok t) = Ok t.txn
begun_txn (Err fault) = Err fault
