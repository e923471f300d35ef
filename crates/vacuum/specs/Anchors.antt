-- The records of an anchor chain, as a walk over the versions in memory gives them.
use Rattle.std.specs.Prelude.{ℕ, ◌<◌, List, [], ◌∷◌, map, filter, length}
use Rattle.std.specs.List.{flat_map}
use Rattle.history.specs.Versions.{versions, stands_at}
use Rattle.chains.specs.declared.bound.Bound.{Bound}
use Rattle.chains.specs.KeyWrites.{KeyWrites}
use Rattle.law_image.specs.Reading.{OldRecord}
use Rattle.law_image.specs.PlansMade.{old_record}
use Rattle.deltas.specs.declared.«record».Record.{Record}
use Rattle.deltas.specs.Records.{old_record_of}
use Rattle.vacuum.specs.Archives.{keys_within}

-- a record for the version of a key that stands at a time, if one does
abbrev pub key_anchors : ℕ → KeyWrites → List OldRecord
key_anchors mark c = map (old_record c.key) (filter (stands_at mark) (versions c.writes))

-- those of all keys, in their order
abbrev pub anchors_of : ℕ → List KeyWrites → List OldRecord
anchors_of mark frozen = flat_map (key_anchors mark) frozen

-- as the heap has them
abbrev pub key_olds : ℕ → KeyWrites → List Record
key_olds mark c = map old_record_of (key_anchors mark c)

-- those of all keys as the heap has them
abbrev pub olds_of : ℕ → List KeyWrites → List Record
olds_of mark frozen = map old_record_of (anchors_of mark frozen)

-- those of the keys within a bound
abbrev pub olds_at : ℕ → Bound → List KeyWrites → List Record
olds_at mark bound frozen = olds_of mark (keys_within bound frozen)

-- the first of these keys, if there is one, has a record
abbrev pub HasAnchor : ℕ → List KeyWrites → Type 0
HasAnchor mark [] = Unit {0}
HasAnchor mark (c ∷ cs) = 0 < length (key_olds mark c)

-- a record is next within this bound, unless none is left
abbrev pub IsAnchored : ℕ → Bound → List KeyWrites → Type 0
IsAnchored mark bound frozen = HasAnchor mark (keys_within bound frozen)

-- a walk over records of the heap: all of them, and those that are left
pub record Sourced : Type 0 where
  pub all : List Record
  pub left : List Record
