-- Write sets: writes in strictly rising order of their keys.
use Rattle.std.specs.Prelude.{ℕ, ◌≡◌, ◌<◌, ◌≤◌, true, List, [], ◌∷◌, length, map, slice_index_or, if◌then◌else◌, MatchResult, Result}
use Rattle.std.specs.List.Sorted.{IsStrictlySortedBy}
use Rattle.history.specs.declared.key.Key.{Key}
use Rattle.history.specs.declared.key.KeyWrite.{KeyWrite}
use Rattle.history.specs.Key.{key_cmp, key_lt, same_key}

-- each key once, in rising order
abbrev pub AreRising : {V : Type 0} → List (KeyWrite V) → Type 0
AreRising {V} writes = IsStrictlySortedBy key_cmp (map (λ (w : KeyWrite V). w.key) writes)

-- these writes with one more, in place of the one that its key had
abbrev pub with_write : {V : Type 0} → List (KeyWrite V) → KeyWrite V → List (KeyWrite V)
with_write [] w = w ∷ []
with_write (x ∷ xs) w = if key_lt x.key w.key then x ∷ with_write xs w else (if key_lt w.key x.key then w ∷ x ∷ xs else w ∷ xs)

-- these writes without the one of a key
abbrev pub without : {V : Type 0} → List (KeyWrite V) → Key → List (KeyWrite V)
without [] key = []
without (x ∷ xs) key = if same_key x.key key then xs else x ∷ without xs key

-- the write of a key stands at this place
pub record IsPlaceOf {V : Type 0} (key : Key) (writes : List (KeyWrite V)) (place : ℕ) : Type 0 where
  pub within : place < length writes
  pub is : (d : KeyWrite V) → same_key (slice_index_or writes place d).key key ≡ true

-- no write has the key, and one is to stand at this place: behind the lesser keys and before the greater ones
pub record IsPlaceFor {V : Type 0} (key : Key) (writes : List (KeyWrite V)) (place : ℕ) : Type 0 where
  pub within : place ≤ length writes
  pub lesser : (k : ℕ) (d : KeyWrite V) → k < place → key_lt (slice_index_or writes k d).key key ≡ true
  pub greater : (k : ℕ) (d : KeyWrite V) → place ≤ k → k < length writes → key_lt key (slice_index_or writes k d).key ≡ true

-- where the write of a key stands, or where it is to stand
abbrev pub IsPlace : {V : Type 0} → Key → List (KeyWrite V) → Result ℕ ℕ → Type 0
IsPlace key writes place = MatchResult place (IsPlaceOf key writes) (IsPlaceFor key writes)
