-- What a put and a delete do to a transaction, by what the transaction answers.
use Rattle.std.proofs.Common.{◌≡◌, ◌≢◌, ◌↔◌, ◌≤◌, ◌∙◌, List, ℕ, [], ◌∷◌, length, Result, Ok, Err, OnOk, OnErr, None, IsSome, sym, ap, subst, refl, arith}
use Rattle.std.specs.List.{AllByRecursion}
use Rattle.history.specs.declared.key.Key.{Key}
use Rattle.snapshot.specs.Txn.{TxnValue, seen_by, with_put, with_delete, IsFullFor}
use Rattle.snapshot.specs.declared.txn.TxnFault.{TxnFault}
use Rattle.snapshot.specs.declared.txn.TxnFault.TheVariants as fault
use Rattle.wire.specs.Fields.{IsField, AreShort}
use Rattle.wire.specs.Values.{IsValue, HasSizes, value_bytes}
use Rattle.c_engine.specs.Writes.{Puts, Deletes}

short : (fields : List (List ℕ)) → AllByRecursion IsField fields → AreShort fields
short [] all = tt
short (field ∷ fields) all = let low : length field ≤ 255 = omega (arith, all.0.short) in (low, short fields all.1)

has_sizes : (value : List (List ℕ)) → IsValue value → HasSizes value
has_sizes value is = record { some = is.some; few = is.few; short = short value is.fields }

pub puts : (key : Key) (txn after : TxnValue) (value fields : List (List ℕ)) (result : Result (Unit {0}) TxnFault) → fields ≡ value → IsValue value
    → OnOk result (after ≡ with_put txn key fields)
    → result ≢ Err fault.Missing → (result ≡ Err fault.TooManyKeys) ↔ IsFullFor txn.writes key → (result ≡ Err fault.BadValue)
    ↔ ((¬ IsFullFor txn.writes key) × (¬ HasSizes fields)) → OnErr result (after ≡ txn)
    → Puts key (value_bytes value) txn result after
puts key txn after value fields (Ok done) same is ok missing full bad err = (value, refl, ok ∙ ap (λ (v : List (List ℕ)). with_put txn key v) same)
puts key txn after value fields (Err fault.Missing) same is ok missing full bad err = absurd (missing refl)
puts key txn after value fields (Err fault.TooManyKeys) same is ok missing full bad err = (err, ((value, is, refl), full.0 refl))
puts key txn after value fields (Err fault.BadValue) same is ok missing full bad err = absurd ((bad.0 refl).1 (subst HasSizes (sym same) (has_sizes value is)))
puts key txn after value fields (Err fault.NoMemory) same is ok missing full bad err = (err, tt)

pub deletes : (key : Key) (txn after : TxnValue) (result : Result (Unit {0}) TxnFault) → OnOk result (after ≡ with_delete txn key)
    → (result ≡ Err fault.Missing) ↔ (seen_by txn key ≡ None)
    → (result ≡ Err fault.TooManyKeys) ↔ (IsSome (seen_by txn key) × IsFullFor txn.writes key) → result ≢ Err fault.BadValue → OnErr result (after ≡ txn)
    → Deletes key txn result after
deletes key txn after (Ok done) ok missing full bad err = (λ none. let no : Ok done ≡ Err fault.Missing = missing.1 none in cc, ok)
deletes key txn after (Err fault.Missing) ok missing full bad err = (err, missing.0 refl)
deletes key txn after (Err fault.TooManyKeys) ok missing full bad err = (err, full.0 refl)
deletes key txn after (Err fault.BadValue) ok missing full bad err = absurd (bad refl)
deletes key txn after (Err fault.NoMemory) ok missing full bad err = (err, tt)
