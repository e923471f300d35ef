-- Conflicts: a later commit wrote a key too, and the first committer wins.
use Rattle.std.specs.Prelude.{ℕ, ◌<◌, ◌&&◌, List, nat_lt, Bool, is_some, find, map, Contains, IsSome, Option}
use Rattle.std.specs.List.{list_any}
use Rattle.history.specs.declared.key.Key.{Key}
use Rattle.history.specs.declared.key.KeyWrite.{KeyWrite}
use Rattle.history.specs.Key.{write_in}
use Rattle.history.specs.Histories.{Commit, History}

-- a commit later than the snapshot has a key in common with these writes
pub record IsConflict {V : Type 0} (h : History V) (snapshot : ℕ) (writes : List (KeyWrite V)) : Type 0 where
  pub commit : Commit V
  pub key : Key
  pub committed : Contains h commit
  pub later : snapshot < commit.time
  pub written : IsSome (write_in commit.writes key)
  pub shared : IsSome (write_in writes key)

-- ---- how it is found

-- some commit later than a time wrote the key
abbrev pub is_written_after : {V : Type 0} → History V → ℕ → Key → Bool
is_written_after h time key = list_any (λ c. nat_lt time c.time && is_some (write_in c.writes key)) h

-- the first of these keys that some commit later than a snapshot wrote too: of keys that rise, the least
abbrev pub first_conflict : {V : Type 0} → History V → ℕ → List Key → Option Key
first_conflict h snapshot keys = find (is_written_after h snapshot) keys

-- that of a write set
abbrev pub conflict_with : {V : Type 0} → History V → ℕ → List (KeyWrite V) → Option Key
conflict_with h snapshot writes = first_conflict h snapshot (map (λ w. w.key) writes)
