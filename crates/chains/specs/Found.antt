-- Some versions of a key among all of them.
use Rattle.std.specs.Prelude.{ℕ, ◌≡◌, ◌<◌, List, ◌++◌, length, find, Option, None, Some, slice_get}
use Rattle.history.specs.declared.time.Version.{Version}
use Rattle.history.specs.Versions.{ends_after}
use Rattle.chains.specs.Writes.{Value}

-- versions of one key, oldest first
abbrev pub Versions : Type 0
Versions = List (Version Value)

-- these stand one after another among all, and begin with the first of all that ends after a time
pub record IsPartFrom (time : ℕ) (all part : Versions) : Type 0 where
  pub before : Versions
  pub behind : Versions
  pub among : all ≡ before ++ (part ++ behind)
  pub first : slice_get part 0 ≡ find (ends_after time) all
  pub some : 0 < length part

-- the same, where one ends after the time
abbrev pub IsFound : ℕ → Versions → Option Versions → Type 0
IsFound time all None = find (ends_after time) all ≡ None
IsFound time all (Some part) = IsPartFrom time all part
