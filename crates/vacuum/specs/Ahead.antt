-- What stands next in a walk over archive records.
use Rattle.std.specs.Prelude.{ℕ, ◌≡◌, max, true, nat_le, List, [], ◌∷◌, drop, Option, None, Some, find, if◌then◌else◌}
use Rattle.std.specs.Option.{is_some}
use Rattle.history.specs.declared.key.Key.{Key}
use Rattle.history.specs.declared.time.Version.{Version}
use Rattle.history.specs.Versions.{versions}
use Rattle.chains.specs.Bounds.{is_in}
use Rattle.chains.specs.Found.{IsPartFrom}
use Rattle.chains.specs.KeyWrites.{KeyWrites, IsOrdered, AreRising}
use Rattle.chains.specs.Writes.{Value}
use Rattle.law_image.specs.Reading.{ArchiveRecord}
use Rattle.law_image.specs.PlansMade.{archive_record}
use Rattle.vacuum.specs.declared.ahead.Ahead.{Ahead}
use Rattle.vacuum.specs.declared.archive_walk.Place.{Place}
use Rattle.vacuum.specs.declared.archive_walk.Since.{Since}
use Rattle.vacuum.specs.Archives.{since_of}

-- the record of the first of these versions of a key, if that ended by a time
abbrev pub first_record : Key → ℕ → List (Version Value) → Option ArchiveRecord
first_record key upto [] = None
first_record key upto (v ∷ vs) = if nat_le v.to upto then Some (archive_record key v) else None

-- versions of a key from the first one on that ends after one time, which has ended by another
pub record IsAheadOf (passed upto : ℕ) (c : KeyWrites) (a : Ahead) : Type 0 where
  pub key : a.key ≡ c.key
  pub part : IsPartFrom passed (versions c.writes) a.part
  pub ended : is_some (first_record a.key upto a.part) ≡ true

-- and they are of the key that is next
pub record IsNext (since : Since) (upto : ℕ) (place : Place) (frozen : List KeyWrites) (a : Ahead) : Type 0 where
  pub ordered : IsOrdered frozen
  pub rising : AreRising frozen
  pub chain : KeyWrites
  pub found : find (λ (c : KeyWrites). is_in place.bound c.key) frozen ≡ Some chain
  pub ahead : IsAheadOf (max place.passed (since_of since chain.key.relation)) upto chain a

-- if there are some
abbrev pub IsAhead : Since → ℕ → Place → List KeyWrites → Option Ahead → Type 0
IsAhead since upto place frozen None = Unit {0}
IsAhead since upto place frozen (Some a) = IsNext since upto place frozen a

-- the same versions of a key without the first, of which the next has ended by a time
pub record IsBehind (upto : ℕ) (old new : Ahead) : Type 0 where
  pub key : new.key ≡ old.key
  pub part : new.part ≡ drop 1 old.part
  pub ended : is_some (first_record new.key upto new.part) ≡ true

-- what stands next has gone on to the next version of the same key, which has a record too
abbrev pub HasMoved : ℕ → Option Ahead → Option Ahead → Type 0
HasMoved upto None new = ⊥
HasMoved upto (Some a) None = ⊥
HasMoved upto (Some a) (Some b) = IsBehind upto a b
