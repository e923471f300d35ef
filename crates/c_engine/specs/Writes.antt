-- What a transaction writes.
use Rattle.std.specs.Prelude.{◌≡◌, ◌≢◌, ℕ, List, Result, Ok, Err, None, IsSome}
use Rattle.history.specs.declared.key.Key.{Key}
use Rattle.snapshot.specs.Txn.{TxnValue, seen_by, with_put, with_delete, IsFullFor}
use Rattle.snapshot.specs.declared.txn.TxnFault.{TxnFault}
use Rattle.snapshot.specs.declared.txn.TxnFault.TheVariants as fault
use Rattle.wire.specs.Values.{IsValue, value_bytes}

-- the bytes are those of a value
abbrev pub SpellsValue : List ℕ → Type 0
SpellsValue bytes = (value : List (List ℕ)) × IsValue value × (bytes ≡ value_bytes value)

-- why a put is refused: too many keys, bytes that are no value, or want of memory; never a missing key
abbrev pub RefusesPut : Key → List ℕ → TxnValue → TxnFault → Type 0
RefusesPut key bytes txn fault.Missing = ⊥
RefusesPut key bytes txn fault.TooManyKeys = SpellsValue bytes × IsFullFor txn.writes key
RefusesPut key bytes txn fault.BadValue = ¬ SpellsValue bytes
RefusesPut key bytes txn fault.NoMemory = Unit {0}

-- the value of these bytes is written; a refusal changes nothing
abbrev pub Puts : Key → List ℕ → TxnValue → Result (Unit {0}) TxnFault → TxnValue → Type 0
Puts key bytes txn (Ok done) after = (value : List (List ℕ)) × (bytes ≡ value_bytes value) × (after ≡ with_put txn key value)
Puts key bytes txn (Err why) after = (after ≡ txn) × RefusesPut key bytes txn why

-- why a delete is refused: the key has no value, too many keys, or want of memory; never a bad value
abbrev pub RefusesDelete : Key → TxnValue → TxnFault → Type 0
RefusesDelete key txn fault.Missing = seen_by txn key ≡ None
RefusesDelete key txn fault.TooManyKeys = IsSome (seen_by txn key) × IsFullFor txn.writes key
RefusesDelete key txn fault.BadValue = ⊥
RefusesDelete key txn fault.NoMemory = Unit {0}

-- what the transaction sees of a key is deleted
abbrev pub Deletes : Key → TxnValue → Result (Unit {0}) TxnFault → TxnValue → Type 0
Deletes key txn (Ok done) after = (seen_by txn key ≢ None) × (after ≡ with_delete txn key)
Deletes key txn (Err why) after = (after ≡ txn) × RefusesDelete key txn why
