-- Histories told of sets: which writes, versions and rows there are. The laws say that the lists have exactly these.
use Rattle.std.specs.Prelude.{ℕ, ◌≡◌, ◌<◌, ◌≤◌, ◌^◌, ◌⊎◌, Contains, Option, Some}
use Rattle.history.specs.declared.key.Key.{Key}
use Rattle.history.specs.declared.time.Version.{Version}
use Rattle.history.specs.Key.{write_in}
use Rattle.history.specs.Versions.{cut}
use Rattle.history.specs.Histories.{Commit, History}

-- the history writes this to the key at this time: a value, or gone
abbrev pub Writes : {V : Type 0} → History V → Key → ℕ → Option V → Type 0
Writes {V} h key time write = (c : Commit V) × Contains h c × (c.time ≡ time) × (write_in c.writes key ≡ Some write)

-- A version of a key by its facts (what is written to it, and when): a value that is written at from, and to is the time of the key's next fact, gone included,
-- or endless.
-- Endless is 2^63, later than every commit, so that to is always a number.
pub record IsSpan {V : Type 0} (IsFact : ℕ → Option V → Type 0) (v : Version V) : Type 0 where
  pub written : IsFact v.from (Some v.value)
  pub later : v.from < v.to
  pub ended : (v.to ≡ 2 ^ 63) ⊎ ((write : Option V) × IsFact v.to write)
  pub next : (time : ℕ) (write : Option V) → IsFact time write → v.from < time → v.to ≤ time

-- A row of the interval from a to b: the part of a version that lies in it.
-- Rows come one after another, and say the value at each time of the interval (the law rows_say_values).
pub record IsRow {V : Type 0} (IsIn : Version V → Type 0) (a b : ℕ) (row : Version V) : Type 0 where
  pub version : Version V
  pub is_in : IsIn version
  pub part : row ≡ cut a b version
  pub lasts : row.from < row.to
