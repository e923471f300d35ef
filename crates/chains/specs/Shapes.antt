-- Trees as what they hold in order, their height, and the way to what stands last.
use Rattle.std.specs.Prelude.{ℕ, max, List, [], ◌∷◌, ◌++◌, length}

-- What a tree holds, in order, and how many nodes stand below one another in it. Of the way from the top to what stands last: how many branches each fork on it
-- has, and how many chunks lie together at its end.
pub record Shape (E : Type 0) : Type 0 where
  pub chunks : List E
  pub height : ℕ
  pub forks : List ℕ
  pub together : ℕ

-- what several trees hold, one behind another
abbrev pub all_of : {E : Type 0} → List (Shape E) → List E
all_of [] = []
all_of (t ∷ ts) = t.chunks ++ all_of ts

-- how high the highest of them is
abbrev pub highest : {E : Type 0} → List (Shape E) → ℕ
highest [] = 0
highest (t ∷ ts) = max t.height (highest ts)

-- these lie together
abbrev pub leaf : {E : Type 0} → List E → Shape E
leaf chunks = record { chunks = chunks; height = 0; forks = []; together = length chunks }

-- the last of several trees, or this one where there is none
abbrev pub last_or : {E : Type 0} → Shape E → List (Shape E) → Shape E
last_or t [] = t
last_or t (u ∷ us) = last_or u us

-- the last of several trees
abbrev pub last_of : {E : Type 0} → List (Shape E) → Shape E
last_of ts = last_or (leaf []) ts

-- several trees below a fork of this height
abbrev pub fork_of : {E : Type 0} → ℕ → List (Shape E) → Shape E
fork_of height ts = record { chunks = all_of ts; height = height; forks = length ts ∷ (last_of ts).forks; together = (last_of ts).together }
