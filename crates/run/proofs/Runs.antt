-- Worlds before any call, and after one that leaves the machine as it is.
use Rattle.std.proofs.Common.{Bool, List, [], refl, sym, ◌∙◌}
use Rattle.history.specs.Machine.{Machine}
use Rattle.law_image.specs.Values.{Value}
use Rattle.any_store.specs.Values.{StoreValue, commits_of}
use Rattle.law_any_store.specs.Standing.{Stands, GoesOn}
use Rattle.law_any_store.specs.Names as memory
use Rattle.law_any_store.proofs.Marks.{layout-stays}
use Rattle.run.specs.declared.held.Held.{Held}
use Rattle.run.specs.Places.{Place, ArePlaces, AreRead}
use Rattle.run.specs.Worlds.{World, IsWorld, started}
use Rattle.run.specs.Runs.{Follows}

-- a call that leaves the machine as it is
pub no-step : (m : Machine Value) → Follows m m
no-step m = ([], refl)

-- before the first call
pub started-world : (tells : Bool) (v : StoreValue) (m : Machine Value) → Stands tells v m → IsWorld tells v [] (started v m)
started-world tells v m stands = record {
  stands = stands;
  layout = refl;
  names = refl;
  places = record { many = refl; each = λ i x at. absurd (cc); apart = λ i j a b at_i at_j clash. absurd (cc) };
  views = record { each = λ i x at. absurd (cc) };
}

-- ---- after a call

-- the store has gone on, and no name has left its memory
pub record Lasts (tells : Bool) (v v' : StoreValue) : Type 0 where
  pub goes : GoesOn tells v v'
  pub names : memory.KeepsNames v v'

-- the world after a call, with what the machine and the places are then
pub next-world : (tells : Bool) (v v' : StoreValue) (xs xs' : List Held) (w : World) (m : Machine Value) (ps : List Place) → IsWorld tells v xs w
    → Lasts tells v v' → Stands tells v' m → ArePlaces (commits_of v') m.published xs' ps → AreRead tells v' xs' ps
    → IsWorld tells v' xs' (record w { machine = m; places = ps })
next-world tells v v' xs xs' w m ps is lasts stands places views = record {
  stands = stands;
  layout = is.layout ∙ sym (layout-stays tells v v' lasts.goes);
  names = is.names ∙ sym lasts.names;
  places = places;
  views = views;
}
