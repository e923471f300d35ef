-- Floors as they are kept: one of every relation, and those that some relations have of their own.
use Rattle.std.specs.Prelude.{ℕ, ◌<◌, ◌==◌, ◌&&◌, nat_lt, Bool, true, false, IsTrue, List, [], ◌∷◌, Option, None, Some, if◌then◌else◌}
use Rattle.std.specs.List.{AllByRecursion}
use Rattle.std.specs.declared.sync.Arc.{Arc}
use Rattle.std.specs.declared.vec.Vec.{Vec}
use Rattle.std.specs.declared.alloc.Global.{Global}
use Rattle.history.specs.Floors.{covers}
use Rattle.floors.specs.declared.floors.OwnFloor.{OwnFloor}

-- the floor of each relation
pub record FloorsValue : Type 0 where
  -- that of the relations that have none of their own
  pub every : ℕ
  pub own : List OwnFloor

-- no relation has a floor
abbrev pub no_floors : FloorsValue
no_floors = record { every = 0; own = [] }

-- what several hold together
abbrev pub own_in : Option (Arc (Vec OwnFloor Global) Global) → List OwnFloor
own_in None = []
own_in (Some shared) = shared.value.items

-- each relation is greater than those before it
abbrev pub AreRising : List OwnFloor → Type 0
AreRising [] = Unit {0}
AreRising (o ∷ os) = AllByRecursion (λ (p : OwnFloor). o.relation < p.relation) os × AreRising os

-- the floor of a relation among these, or else the other
abbrev pub floor_or : ℕ → List OwnFloor → ℕ → ℕ
floor_or every [] relation = every
floor_or every (o ∷ os) relation = if o.relation == relation then o.floor else floor_or every os relation

-- the floor of a relation: its own, or else that of every relation
abbrev pub floor_at : FloorsValue → ℕ → ℕ
floor_at floors relation = floor_or floors.every floors.own relation

-- what stands behind the floor of a relation, where none of a lesser one is among these
abbrev pub behind : List OwnFloor → ℕ → List OwnFloor
behind [] relation = []
behind (o ∷ os) relation = if o.relation == relation then os else o ∷ os

-- these floors with that of one relation, in place of the one that it had
abbrev pub with_own : List OwnFloor → ℕ → ℕ → List OwnFloor
with_own [] relation floor = record { relation = relation; floor = floor } ∷ []
with_own (o ∷ os) relation floor =
    if nat_lt o.relation relation then o ∷ with_own os relation floor else record { relation = relation; floor = floor } ∷ behind (o ∷ os) relation

-- the floors after one is raised, of one relation or of every relation
abbrev pub raised_in : Option ℕ → ℕ → FloorsValue → FloorsValue
raised_in None floor floors = record { every = floor; own = [] }
raised_in (Some only) floor floors = record { every = floors.every; own = with_own floors.own only floor }

-- the same relation has the same floor
abbrev pub same_floor : OwnFloor → OwnFloor → Bool
same_floor o p = (o.relation == p.relation) && (o.floor == p.floor)

-- these floors are the others
abbrev pub same_own : List OwnFloor → List OwnFloor → Bool
same_own [] [] = true
same_own [] (p ∷ ps) = false
same_own (o ∷ os) [] = false
same_own (o ∷ os) (p ∷ ps) = same_floor o p && same_own os ps

-- both are the same floors, of every relation and of single ones
abbrev pub same_floors : FloorsValue → FloorsValue → Bool
same_floors a b = (a.every == b.every) && same_own a.own b.own

-- each of these floors is below this one
abbrev pub all_below : ℕ → List OwnFloor → Bool
all_below floor [] = true
all_below floor (o ∷ os) = nat_lt o.floor floor && all_below floor os

-- each of the floors that this one would take the place of is below it
abbrev pub AreBelow : FloorsValue → Option ℕ → ℕ → Type 0
AreBelow floors scope floor = (relation : ℕ) → IsTrue (covers scope relation) → floor_at floors relation < floor
