-- What stands under a number.
use Rattle.std.specs.Prelude.{ℕ, ◌≡◌, ◌==◌, ◌<◌, ◌+◌, ◌*◌, ◌%◌, ◌^◌, slice_get, List, IsTrue, Option, None, Some, Result, option_map, if◌then◌else◌}
use Rattle.group.specs.Tickets.{TicketValue}
use Rattle.snapshot.specs.Txn.{TxnValue}
use Rattle.snapshot.specs.declared.txn.TxnFault.{TxnFault}
use Rattle.timequery.specs.View.{ViewValue}
use Rattle.c_engine.specs.FreePlaces.{has_free}
use Rattle.c_engine.specs.Numbers.{place_in, stamp_in, tag_in}
use Rattle.c_engine.specs.declared.engine.Engine.{Engine}
use Rattle.c_engine.specs.declared.engine.Published.{Published}
use Rattle.c_engine.specs.declared.places.Held.{Held}
use Rattle.c_engine.specs.declared.places.Held.TheVariants.{Nothing, Transaction, Ticket, View}
use Rattle.c_engine.specs.declared.places.Place.{Place}
use Rattle.c_engine.specs.declared.places.Places.{Places}

-- ---- numbers

-- what a place holds under a stamp
abbrev pub held_in : ℕ → Option Place → Held
held_in stamp None = Nothing
held_in stamp (Some place) = if place.stamp == stamp then place.held else Nothing

-- what stands under a number of the store of this tag; a number of another store names nothing
abbrev pub named_in : ℕ → List Place → ℕ → Held
named_in tag places number = if tag_in number == tag then held_in (stamp_in number) (slice_get places (place_in number)) else Nothing

-- what stands under a number: a transaction, a ticket, a view or nothing
abbrev pub named : Places → ℕ → Held
named places number = named_in places.tag places.places.items number

-- the number of a store that names no place
abbrev pub last_number : Places → ℕ
last_number places = 9223372036854775808 + places.tag * 281474976710656

-- what stands there, if it is a transaction
abbrev pub transaction_in : Held → Option TxnValue
transaction_in Nothing = None
transaction_in (Transaction txn) = Some txn
transaction_in (Ticket ticket) = None
transaction_in (View view) = None

-- what stands there, if it is a ticket
abbrev pub ticket_in : Held → Option TicketValue
ticket_in Nothing = None
ticket_in (Transaction txn) = None
ticket_in (Ticket ticket) = Some ticket
ticket_in (View view) = None

-- what stands there, if it is a view
abbrev pub view_in : Held → Option ViewValue
view_in Nothing = None
view_in (Transaction txn) = None
view_in (Ticket ticket) = None
view_in (View view) = Some view

-- the transaction that a number names, if it names one
abbrev pub transaction_under : Engine → ℕ → Option TxnValue
transaction_under e number = transaction_in (named e.places number)

-- the ticket that a number names, if it names one
abbrev pub ticket_under : Engine → ℕ → Option TicketValue
ticket_under e number = ticket_in (named e.places number)

-- the last number names the view of what was published before a call that stands out or was refused
abbrev pub view_of : Places → Option Published → ℕ → Option ViewValue
view_of places before number = if number == last_number places then option_map (λ p. p.view) before else view_in (named places number)

-- the view that a number names, if it names one; the last number too may name one
abbrev pub view_under : Engine → ℕ → Option ViewValue
view_under e number = view_of e.places e.before number

-- ---- stamps

-- the stamp of a place, 0 before there is one
abbrev pub stamp_of : Option Place → ℕ
stamp_of None = 0
stamp_of (Some place) = place.stamp

-- the stamp of this place
abbrev pub stamp_at : Places → ℕ → ℕ
stamp_at places at = stamp_of (slice_get places.places.items at)

-- no stamp changes, nor does the tag
pub record KeepsStamps (old new : Places) : Type 0 where
  pub stamps : (at : ℕ) → stamp_at new at ≡ stamp_at old at
  pub tag : new.tag ≡ old.tag

-- the stamp of the number's place is one greater, and 0 after the greatest; every other is as before
pub record RaisesStamp (number : ℕ) (old new : Places) : Type 0 where
  pub stamps : (at : ℕ) → stamp_at new at ≡ (if at == place_in number then (stamp_at old at + 1) % 4294967296 else stamp_at old at)
  pub tag : new.tag ≡ old.tag

-- ---- what changes

-- this stands under the number from now on, and under each other number what stood there
abbrev pub Names : ℕ → Held → Places → Places → Type 0
Names number held old new = (n : ℕ) → named new n ≡ (if n == number then held else named old n)

-- each number names what it did, and would name it again
pub record SameNumbers (old new : Places) : Type 0 where
  pub names : (n : ℕ) → named new n ≡ named old n
  pub stamps : KeepsStamps old new

-- it stands under a number of this store that named nothing and is not the last
pub record IsKept (held : Held) (number : ℕ) (old new : Places) : Type 0 where
  pub free : named old number ≡ Nothing
  pub own : tag_in number ≡ old.tag
  pub low : number < 2 ^ 63
  pub names : Names number held old new
  pub stamps : KeepsStamps old new

-- the number names nothing from now on, and comes again only when all stamps of its place were used; the place is free
pub record IsTaken (number : ℕ) (old new : Places) : Type 0 where
  pub names : Names number Nothing old new
  pub free : IsTrue (has_free new.places.items new.free)
  pub stamps : RaisesStamp number old new

-- a transaction is written to so
pub record IsWritten (number : ℕ) (Does : TxnValue → Result (Unit {0}) TxnFault → TxnValue
    → Type 0) (outcome : Result (Unit {0}) TxnFault) (old new : Places) : Type 0 where
  pub before : TxnValue
  pub after : TxnValue
  pub named_is : transaction_in (named old number) ≡ Some before
  pub does : Does before outcome after
  pub names : Names number (Transaction after) old new
  pub stamps : KeepsStamps old new
