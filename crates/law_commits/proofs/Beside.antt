-- What changes beside memory, and floors that are raised.
use Rattle.std.proofs.Common.{◌≡◌, ℕ, ◌≤◌, ◌==◌, ◌&&◌, nat_lt, min, length, Bool, true, false, cond, List, Option, refl, arith, ap, sym, ◌∙◌}
use Rattle.std.specs.Prelude.{filter}
use Rattle.history.specs.Floors.{Raising, covers, raised}
use Rattle.history.specs.Machine.{Machine, Gate, MayRaise}
use Rattle.history.specs.Steps.{floor_published}
use Rattle.history.specs.Versions.{versions, ends_after}
use Rattle.history.specs.Histories.{History, versions_of}
use Rattle.history.proofs.Views.{filter-later}
use Rattle.law_image.specs.Values.{Value}
use Rattle.floors.specs.Floors.{FloorsValue, floor_at}
use Rattle.chains.specs.KeyWrites.{KeyWrites, writes_of}
use Rattle.commits.specs.Values.{CommitsValue, with_floors}
use Rattle.commits.specs.Steps.{grouped}
use Rattle.law_refinement.specs.Standing.{HasWrites}
use Rattle.law_commits.specs.Standing.{StandsInMemory}

pub beside : (v : CommitsValue) (m : Machine Value) (size group : ℕ) (raising : Option Raising) (gate : Gate) → StandsInMemory v m
    → StandsInMemory (record v { group = size }) (record m { group = group; raising = raising; gate = gate })
beside v m size group raising gate stands = record {
  names = stands.names;
  rising = stands.rising;
  versions = stands.versions;
  forgot = stands.forgot;
  recent = stands.recent;
  queue = stands.queue;
  snapshots = stands.snapshots;
  floors = stands.floors;
  failed = stands.failed;
}

pub begins : (v : CommitsValue) (m : Machine Value) (most : ℕ) → StandsInMemory v m → StandsInMemory (grouped most v) m
begins v m most stands =
    elim ((v.group == 0) && nat_lt 0 (length v.queue)) as
    (λ (b : Bool). StandsInMemory (cond b (record v { group = min most (length v.queue) }) v) m) [
      | true ↦ beside v m (min most (length v.queue)) m.group m.raising m.gate stands
      | false ↦ stands
    ]

-- no floor falls where one is raised
raised-over : (m : Machine Value) (r : Raising) (relation : ℕ) → MayRaise m r → m.floors relation ≤ raised r.scope r.floor m.floors relation
raised-over m r relation may = by-cover (covers r.scope relation) refl
  where
    by-cover : (b : Bool) → covers r.scope relation ≡ b → m.floors relation ≤ cond b r.floor (m.floors relation)
    by-cover true covered = let low = may.rises relation covered in omega (arith, low)
    by-cover false not = omega arith

-- later floors leave less of the versions
raised-has : (floors later : ℕ → ℕ) (reclaimed : ℕ) (state : List KeyWrites) (h : History Value) → ((relation : ℕ) → floors relation ≤ later relation)
    → HasWrites floors reclaimed state h → HasWrites later reclaimed state h
raised-has floors later reclaimed state h over has = record {
  ordered = has.ordered;
  marked = has.marked;
  before = has.before;
  rising = has.rising;
  early = has.early;
  writes = has.writes;
  at_home = λ key.
      sym (filter-later (floors key.relation) (later key.relation) (versions (writes_of state key)) (over key.relation))
      ∙ ap (filter (ends_after (later key.relation))) (has.at_home key)
      ∙ filter-later (floors key.relation) (later key.relation) (filter (ends_after reclaimed) (versions_of h key)) (over key.relation);
}

pub raises : (v : CommitsValue) (m : Machine Value) (r : Raising) (floors : FloorsValue) → StandsInMemory v m → MayRaise m r
    → ((relation : ℕ) → floor_at floors relation ≡ raised r.scope r.floor m.floors relation)
    → StandsInMemory (with_floors v floors) (floor_published m r)
raises v m r floors stands may is = record {
  names = stands.names;
  rising = stands.rising;
  versions = raised-has m.floors (raised r.scope r.floor m.floors) v.reclaimed v.versions m.published (λ relation. raised-over m r relation may)
      stands.versions;
  forgot = stands.forgot;
  recent = stands.recent;
  queue = stands.queue;
  snapshots = stands.snapshots;
  floors = is;
  failed = stands.failed;
}
