-- Places that hold nothing, and the list of them.
use Rattle.std.specs.Prelude.{◌≡◌, ◌<◌, ◌≤◌, ◌==◌, ◌&&◌, ◌||◌, ℕ, nat_lt, slice_get, List, [], ◌∷◌, Bool, true, false, Option, None, Some}
use Rattle.c_engine.specs.declared.places.Held.{Held}
use Rattle.c_engine.specs.declared.places.Held.TheVariants.{Nothing, Transaction, Ticket, View}
use Rattle.c_engine.specs.declared.places.Place.{Place}

-- nothing stands there
abbrev pub is_nothing : Held → Bool
is_nothing Nothing = true
is_nothing (Transaction txn) = false
is_nothing (Ticket ticket) = false
is_nothing (View view) = false

-- there is such a place, and nothing stands in it
abbrev pub holds_nothing : Option Place → Bool
holds_nothing None = false
holds_nothing (Some place) = is_nothing place.held

-- something stands in each place
abbrev pub AllTaken : List Place → Type 0
AllTaken places = (at : ℕ) → holds_nothing (slice_get places at) ≡ false

-- this place holds nothing
abbrev pub has_free : List Place → ℕ → Bool
has_free places free = nat_lt free 65536 && holds_nothing (slice_get places free)

-- the number is one of these
abbrev pub is_among : ℕ → List ℕ → Bool
is_among n [] = false
is_among n (x ∷ xs) = (x == n) || is_among n xs

-- From this place on these are free, each with the number of the next one, and no one twice.
abbrev pub IsChain : List Place → ℕ → List ℕ → Type 0
IsChain places from [] = 65536 ≤ from
IsChain places from (at ∷ rest) = (from ≡ at) × (at < 65536) × (is_among at rest ≡ false)
    × ((place : Place) × (slice_get places at ≡ Some place) × (is_nothing place.held ≡ true) × IsChain places place.next rest)

-- each place that holds nothing is found from the one that became free last
pub record AreChained (places : List Place) (free : ℕ) : Type 0 where
  pub chain : List ℕ
  pub is_chain : IsChain places free chain
  pub all : (at : ℕ) → holds_nothing (slice_get places at) ≡ true → is_among at chain ≡ true
