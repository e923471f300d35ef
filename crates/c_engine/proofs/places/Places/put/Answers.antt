use Rattle.std.proofs.Common.{◌≡◌, ◌≢◌, ◌∙◌, List, Some, sym, ap, refl}
use Rattle.c_engine.specs.Held.{named_in, transaction_in}
use Rattle.c_engine.specs.Numbers.{place_in}
use Rattle.c_engine.specs.declared.places.Held.TheVariants.{Nothing, Transaction}
use Rattle.c_engine.specs.declared.places.Place.{Place}
use Rattle.c_engine.proofs.Named.{there, written, is_transaction, not_nothing, same_stamps}
use Rattle.c_engine.proofs.Chaining.{stays_taken, named_taken}
use Rattle.c_engine.proofs.places.Places.put.Goals as goal

pub invariant_of-self-clause-chained : goal.invariant_of-self-clause-chained
invariant_of-self-clause-chained c =
    let tag = c.args.self.now.tag in
    let places : List Place = c.args.self.now.places.items in
    let number = c.args.number in
    let place : Place = c.index_mut.result.now in
    let some : named_in tag places number ≢ Nothing = not_nothing (named_in tag places number) _ (sym c.in_ok-transaction.ensures) in
    let after : Place = record { stamp = place.stamp; held = Transaction c.put.new.txn; next = place.next } in
    let at = there tag places number place some c.index_mut.ensures.value in
    let names = written tag places number place after some c.index_mut.ensures.value refl in
    stays_taken places c.args.self.now.free (place_in number) place after at.at (named_taken (named_in tag places number) place some names.0) refl
    c.args.self.now.chained

pub returns-in-Transaction : goal.returns-in-Transaction
returns-in-Transaction c =
    let tag = c.args.self.now.tag in
    let places : List Place = c.args.self.now.places.items in
    let number = c.args.number in
    let place : Place = c.index_mut.result.now in
    let some : named_in tag places number ≢ Nothing = not_nothing (named_in tag places number) _ (sym c.in_ok-transaction.ensures) in
    let after : Place = record { stamp = place.stamp; held = Transaction c.put.new.txn; next = place.next } in
    let at = there tag places number place some c.index_mut.ensures.value in
    let names = written tag places number place after some c.index_mut.ensures.value refl in
    let held : transaction_in (named_in tag places number) ≡ Some c.in-Transaction.txn = ap transaction_in (names.0 ∙ c.in-Transaction.is) in
    record {
      before = c.in-Transaction.txn;
      after = c.put.new.txn;
      named_is = held;
      does = c.put.ensures;
      names = names.1;
      stamps = record { stamps = same_stamps places (place_in number) place after at.at refl; tag = refl };
    }

pub returns-in_default : goal.returns-in_default
returns-in_default c =
    let tag = c.args.self.now.tag in
    let places : List Place = c.args.self.now.places.items in
    let number = c.args.number in
    let place : Place = c.index_mut.result.now in
    let some : named_in tag places number ≢ Nothing = not_nothing (named_in tag places number) _ (sym c.in_ok-transaction.ensures) in
    let names = written tag places number place place some c.index_mut.ensures.value refl in
    absurd (c.in_default.not-Transaction _ (sym names.0 ∙ is_transaction (named_in tag places number) _ (sym c.in_ok-transaction.ensures)))
