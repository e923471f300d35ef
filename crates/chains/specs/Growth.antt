-- How high a key's older writes grow: as a number that counts on, whose digits are the branches of the forks on the way to the last chunk. A fork has one
-- branch
-- more only where nothing below it has room, and what is new begins with one branch below each fork. A fork above all stands only where each has 32. So the
-- height grows as the logarithm of how many chunks came.
use Rattle.std.specs.Prelude.{ℕ, ◌≡◌, ◌+◌, ◌≤◌, Bool, List, [], ◌∷◌, length, map, nat_le, nat_lt, ◌==◌, ◌||◌, MatchBool, if◌then◌else◌}
use Rattle.chains.specs.Shapes.{Shape, highest, last_of}
use Rattle.chains.specs.Writes.{Write}

-- older writes as a branch
abbrev pub as_branch : Shape Write → Shape Write
as_branch older = record older { height = older.height + 1 }

-- older writes as a branch, where there are some
abbrev pub branches_of : Shape Write → List Write → List (Shape Write)
branches_of older [] = []
branches_of older (w ∷ ws) = as_branch older ∷ []

-- older writes are a fork of these branches
pub record IsForkOf (branches : List (Shape Write)) (older : Shape Write) : Type 0 where
  pub forks : older.forks ≡ length branches ∷ (last_of branches).forks
  pub together : older.together ≡ (last_of branches).together
  pub height : older.height ≤ highest branches + 1

-- there is room for n writes behind the last, or for one branch more in a fork on the way to them
abbrev pub has_room : ℕ → ℕ → List ℕ → Bool
has_room n together [] = (together == 0) || nat_le (together + n) 32
has_room n together (f ∷ fs) = nat_lt f 32 || has_room n together fs

-- the forks once n writes came, where there is room for them
abbrev pub forks_with : ℕ → ℕ → List ℕ → List ℕ
forks_with n together [] = []
forks_with n together (f ∷ fs) = if has_room n together fs then f ∷ forks_with n together fs else (f + 1) ∷ map (λ k. 1) fs

-- how many writes lie together at the end then
abbrev pub together_with : ℕ → ℕ → List ℕ → ℕ
together_with n together [] = together + n
together_with n together (f ∷ fs) = if has_room n together fs then together_with n together fs else n

-- n writes alone below as many forks as stand in some older ones, each with one branch
pub record IsAlone (n : ℕ) (old new : Shape Write) : Type 0 where
  pub forks : new.forks ≡ map (λ k. 1) old.forks
  pub together : new.together ≡ n
  pub height : new.height ≤ old.height

-- n writes more were put where there is room for them, and the older ones are as high as before
pub record IsRoomTaken (n : ℕ) (old new : Shape Write) : Type 0 where
  pub forks : new.forks ≡ forks_with n old.together old.forks
  pub together : new.together ≡ together_with n old.together old.forks
  pub height : new.height ≤ old.height

-- n writes more stand below a fork above all, with the older ones: there was no room
pub record IsHigher (n : ℕ) (old new : Shape Write) : Type 0 where
  pub forks : new.forks ≡ 2 ∷ map (λ k. 1) old.forks
  pub together : new.together ≡ n
  pub height : new.height ≤ old.height + 2

-- Older writes have n writes more behind them: they are higher only where there was no room.
abbrev pub IsLonger : ℕ → Shape Write → Shape Write → Type 0
IsLonger n old new = MatchBool (has_room n old.together old.forks) (IsRoomTaken n old new) (IsHigher n old new)
