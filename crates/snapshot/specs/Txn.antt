-- A transaction: the state of its snapshot, and its writes over it.
use Rattle.std.specs.Prelude.{ℕ, ◌≡◌, ◌≤◌, List, length, Option, None, Some, IsSome, is_some, unwrap_or, if◌then◌else◌}
use Rattle.std.specs.List.{AllByRecursion}
use Rattle.history.specs.declared.key.Key.{Key}
use Rattle.history.specs.declared.key.KeyWrite.{KeyWrite}
use Rattle.history.specs.Key.{write_in}
use Rattle.history.specs.Time.{value_at}
use Rattle.history.specs.Histories.{IsWrite}
use Rattle.law_image.specs.Values.{Value, IsValue}
use Rattle.chains.specs.KeyWrites.{KeyWrites, writes_of}
use Rattle.snapshot.specs.WriteSets.{AreRising, with_write, without}

-- an open transaction: which one of which store, what it reads, and what it has written
pub record TxnValue : Type 0 where
  -- of the store that began it
  pub mark : ℕ
  -- no other open transaction of its store has it
  pub number : ℕ
  -- the time whose state it reads
  pub snapshot : ℕ
  -- what was published when it began
  pub state : List KeyWrites
  pub writes : List (KeyWrite Value)

-- the value of a key in the snapshot
abbrev pub at_snapshot : List KeyWrites → ℕ → Key → Option Value
at_snapshot state snapshot key = value_at (writes_of state key) snapshot

-- what the transaction sees of a key: its own write, or else the state of its snapshot
abbrev pub seen_by : TxnValue → Key → Option Value
seen_by t key = unwrap_or (write_in t.writes key) (at_snapshot t.state t.snapshot key)

-- gone stands only where the snapshot has a value
abbrev pub EndsASeenValue : List KeyWrites → ℕ → KeyWrite Value → Type 0
EndsASeenValue state snapshot w = w.write ≡ None → IsSome (at_snapshot state snapshot w.key)

-- the writes of a transaction: at most 1,024 keys, rising, each with a value or gone where there is one
pub record AreTxnWrites (state : List KeyWrites) (snapshot : ℕ) (writes : List (KeyWrite Value)) : Type 0 where
  pub rising : AreRising writes
  pub few : length writes ≤ 1024
  pub in_range : AllByRecursion (IsWrite IsValue) writes
  pub gone : AllByRecursion (EndsASeenValue state snapshot) writes

-- there is no place for a write of the key
pub record IsFullFor (writes : List (KeyWrite Value)) (key : Key) : Type 0 where
  pub new : write_in writes key ≡ None
  pub full : length writes ≡ 1024

-- the transaction after a put
abbrev pub with_put : TxnValue → Key → Value → TxnValue
with_put t key value = record t { writes = with_write t.writes (record { key = key; write = Some value }) }

-- and after a delete: a key that is absent in the snapshot needs no write
abbrev pub writes_after_delete : TxnValue → Key → List (KeyWrite Value)
writes_after_delete t key =
    if is_some (at_snapshot t.state t.snapshot key) then with_write t.writes (record { key = key; write = None }) else without t.writes key

-- the transaction after a delete
abbrev pub with_delete : TxnValue → Key → TxnValue
with_delete t key = record t { writes = writes_after_delete t key }
