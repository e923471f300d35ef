-- One key's older writes: those of one chunk, or those of several branches that lie together, one behind another.
use Rattle.std.specs.Prelude.{ℕ, ◌≡◌, ◌+◌, ◌<◌, ◌≤◌, List, [], ◌∷◌, ◌++◌, length, take}
use Rattle.history.specs.Time.{IsRisingAfter}
use Rattle.history.specs.Versions.{first_time}
use Rattle.chains.specs.Shapes.{Shape, all_of, highest, leaf, last_of, fork_of}
use Rattle.chains.specs.Writes.{Write}
use Rattle.chains.specs.declared.older.Parts.{Parts}
use Rattle.chains.specs.declared.older.Parts.TheVariants.{Writes, Branches}
use Rattle.chains.specs.declared.older.Inside.{Inside}
use Rattle.chains.specs.declared.older.Inside.TheVariants.{Nothing, Few, Full, Fork, Wide}

-- the writes, oldest first, and how many forks and branches stand above one another among them
abbrev pub older_in : Inside → Shape Write
older_in Nothing = leaf []
older_in (Few shared) = leaf shared.value.items
older_in (Full shared) = leaf shared.value
older_in (Fork shared) = fork_of (highest shared.value.items + 1) shared.value.items
older_in (Wide count shared) = fork_of (highest shared.value + 1) (take count shared.value)

-- they rise by their times, a fork has some branches, and no more are told of than can lie together
abbrev pub IsOlder : Inside → Type 0
IsOlder (Fork shared) = IsRisingAfter 0 (all_of shared.value.items) × (0 < length shared.value.items)
IsOlder (Wide count shared) = IsRisingAfter 0 (all_of (take count shared.value)) × (count ≤ 32) × (0 < length (take count shared.value))
IsOlder inside = IsRisingAfter 0 (older_in inside).chunks

-- some writes by rising times, of which the first was made at that time
abbrev pub BeginAt : ℕ → List Write → Type 0
BeginAt first writes = IsRisingAfter 0 writes × (0 < length writes) × (first ≡ first_time writes)

-- older writes are those of these branches
pub record IsFork (fork : Shape Write) (branches : List (Shape Write)) : Type 0 where
  pub writes : all_of branches ≡ fork.chunks
  pub height : highest branches < fork.height
  pub rising : IsRisingAfter 0 (all_of branches)
  pub some : 0 < length branches
  pub forks : fork.forks ≡ length branches ∷ (last_of branches).forks
  pub together : fork.together ≡ (last_of branches).together

-- what older writes are made of
abbrev pub IsMadeOf : Shape Write → Parts → Type 0
IsMadeOf older (Writes writes) = (older ≡ leaf writes.now) × IsRisingAfter 0 writes.now
IsMadeOf older (Branches branches) = IsFork older branches.now

-- there are branches, of which the first begins by a time
abbrev pub BeginBy : ℕ → List (Shape Write) → Type 0
BeginBy time [] = 1 ≤ 0
BeginBy time (b ∷ bs) = (0 < length b.chunks) × (first_time b.chunks ≤ time)

-- branches, if there are some, begin after a time
abbrev pub BeginAfter : ℕ → List (Shape Write) → Type 0
BeginAfter time [] = Unit {0}
BeginAfter time (b ∷ bs) = (0 < length b.chunks) × (time < first_time b.chunks)

-- behind some branches come those of which the first begins by a time
abbrev pub BeginByBehind : ℕ → List (Shape Write) → List (Shape Write) → Type 0
BeginByBehind time [] rest = Unit {0}
BeginByBehind time (b ∷ bs) rest = BeginBy time rest

-- the writes of all branches but the first were made after a time
abbrev pub AreLaterBehind : ℕ → List (Shape Write) → Type 0
AreLaterBehind time [] = Unit {0}
AreLaterBehind time (b ∷ bs) = IsRisingAfter time (all_of bs)

-- these are the last of all branches, and begin with the last one that begins by a time, or are all where none does
pub record IsFrom (time : ℕ) (all rest : List (Shape Write)) : Type 0 where
  pub front : List (Shape Write)
  pub parts : all ≡ front ++ rest
  pub begun : BeginByBehind time front rest
  pub later : AreLaterBehind time rest
