-- The machine, together with what the places of a list of calls hold.
use Rattle.std.specs.Prelude.{ℕ, ◌≡◌, Bool, List, [], ◌∷◌, ◌++◌, slice_set}
use Rattle.history.specs.Machine.{Machine}
use Rattle.law_image.specs.Values.{Value}
use Rattle.any_store.specs.Values.{StoreValue, is_log, commits_of}
use Rattle.law_any_store.specs.Standing.{Stands}
use Rattle.law_any_store.specs.Names as memory
use Rattle.run.specs.declared.held.Held.{Held}
use Rattle.run.specs.Places.{Place, Free, ArePlaces, AreRead}

-- the machine, what the place of each call holds, and of which layout the store is
pub record World : Type 0 where
  pub machine : Machine Value
  -- the log lies in the heap, and is no row of slots
  pub in_heap : Bool
  -- the time up to which names of commits may have left memory: 0 where the log is slots
  pub names_from : ℕ
  -- one for each call that was made
  pub places : List Place

-- no call is made yet of the store
abbrev pub started : StoreValue → Machine Value → World
started v m = record { machine = m; in_heap = is_log v; names_from = memory.names_from v; places = [] }

-- ---- the world after a call

-- a call's own place is the next one
abbrev pub leaves : World → Place → World
leaves w place = record w { places = w.places ++ place ∷ [] }

-- what an earlier place holds from then on
abbrev pub put : World → ℕ → Place → World
put w i place = record w { places = slice_set w.places i place }

-- the machine's state from then on
abbrev pub moved : World → Machine Value → World
moved w m = record w { machine = m }

-- nothing is changed, and nothing given
abbrev pub same : World → World
same w = leaves w Free

-- what the place held is spent, and nothing given
abbrev pub spent : World → ℕ → World
spent w i = leaves (put w i Free) Free

-- the store and the places of its callers stand for this world
pub record IsWorld (tells : Bool) (v : StoreValue) (xs : List Held) (w : World) : Type 0 where
  pub stands : Stands tells v w.machine
  pub layout : w.in_heap ≡ is_log v
  pub names : w.names_from ≡ memory.names_from v
  pub places : ArePlaces (commits_of v) w.machine.published xs w.places
  pub views : AreRead tells v xs w.places
