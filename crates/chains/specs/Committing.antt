-- The writes of a commit, parted at a key.
use Rattle.std.specs.Prelude.{ℕ, ◌≡◌, true, false, map, List, [], ◌∷◌, ◌++◌, Option, None, Some}
use Rattle.history.specs.declared.key.Key.{Key}
use Rattle.history.specs.declared.key.KeyWrite.{KeyWrite}
use Rattle.std.specs.List.Sorted.{IsStrictlySortedBy}
use Rattle.history.specs.Key.{key_cmp, key_lt}
use Rattle.chains.specs.Writes.{Value}
use Rattle.chains.specs.KeyWrites.{KeyWrites}

-- each key once, in rising order
abbrev pub AreRisingKeys : List (KeyWrite Value) → Type 0
AreRisingKeys ws = IsStrictlySortedBy key_cmp (map (λ (w : KeyWrite Value). w.key) ws)

-- writes of earlier keys
abbrev pub AreBefore : Key → List (KeyWrite Value) → Type 0
AreBefore key [] = Unit {0}
AreBefore key (w ∷ ws) = (key_lt w.key key ≡ true) × AreBefore key ws

-- writes of later keys
abbrev pub AreBehind : Key → List (KeyWrite Value) → Type 0
AreBehind key [] = Unit {0}
AreBehind key (w ∷ ws) = (key_lt key w.key ≡ true) × AreBehind key ws

-- the first of these writes, if there is one, is of no earlier key
abbrev pub BeginFrom : Key → List (KeyWrite Value) → Type 0
BeginFrom key [] = Unit {0}
BeginFrom key (w ∷ ws) = key_lt w.key key ≡ false

-- a write set is one of earlier keys and one that begins with no earlier key
pub record IsParted (key : Key) (writes before rest : List (KeyWrite Value)) : Type 0 where
  pub all : writes ≡ before ++ rest
  pub earlier : AreBefore key before
  pub begins : BeginFrom key rest
  pub rising_before : AreRisingKeys before
  pub rising_rest : AreRisingKeys rest

-- a write of this key, if there is one
abbrev pub IsOwn : Key → Option (KeyWrite Value) → Type 0
IsOwn key None = Unit {0}
IsOwn key (Some w) = w.key ≡ key

-- the write of a key, if there is one, as a write set
abbrev pub only : Option (KeyWrite Value) → List (KeyWrite Value)
only None = []
only (Some w) = w ∷ []

-- writes are one of a key, if there is one, and those of later keys
pub record HasOwn (key : Key) (writes : List (KeyWrite Value)) (found : Option (KeyWrite Value)) (after : List (KeyWrite Value)) : Type 0 where
  pub all : writes ≡ only found ++ after
  pub found_is : IsOwn key found
  pub behind : AreBehind key after
  pub rising_after : AreRisingKeys after

-- a chain with what a commit writes of its key, if it does
abbrev pub with_own : ℕ → KeyWrites → Option (KeyWrite Value) → KeyWrites
with_own time c None = c
with_own time c (Some w) = record { key = c.key; writes = c.writes ++ record { time = time; write = w.write } ∷ [] }

-- a write set is one of keys before the first of some chains and one of others; all and nothing where there is no chain
abbrev pub ArePartedAt : List KeyWrites → (writes before rest : List (KeyWrite Value)) → Type 0
ArePartedAt [] writes before rest = (writes ≡ before) × (rest ≡ [])
ArePartedAt (c ∷ cs) writes before rest = IsParted c.key writes before rest
