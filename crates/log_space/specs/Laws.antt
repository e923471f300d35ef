-- What holds of extents that are taken into use one after the other.
use Rattle.std.specs.Prelude.{◌≡◌, ℕ, ◌+◌, ◌↔◌, false, true, Bool, List, ◌++◌, length, replicate}
use Rattle.std.specs.List.{AllByRecursion}
use Rattle.log_extents.specs.Chains.{IsNumberOf, IsNew, AreDistinct}
use Rattle.log_space.specs.Uses.{IsFree, with_use, all_used, used_count}

-- in a heap of so many extents the others are free
abbrev pub OthersAreFree : Type 0
OthersAreFree =
    (most : ℕ) (numbers : List ℕ) (number : ℕ) → AllByRecursion (IsNumberOf most) numbers → IsFree (all_used (replicate most false) numbers) number
    ↔ (IsNumberOf most number × IsNew number numbers)

-- as many are in use as these, each once
abbrev pub UsedAreCounted : Type 0
UsedAreCounted =
    (most : ℕ) (numbers : List ℕ) → AllByRecursion (IsNumberOf most) numbers → AreDistinct numbers
    → used_count (all_used (replicate most false) numbers) ≡ length numbers

-- some and then others are all of them
abbrev pub UsedInTurn : Type 0
UsedInTurn = (used : List Bool) (numbers others : List ℕ) → all_used used (numbers ++ others) ≡ all_used (all_used used numbers) others

-- one more is in use, and the heap has as many extents as before
pub record IsOneMore (old new : List Bool) : Type 0 where
  pub count : used_count new ≡ used_count old + 1
  pub len : length new ≡ length old

-- so it is where a free one is taken into use
abbrev pub OneMoreIsCounted : Type 0
OneMoreIsCounted = (used : List Bool) (number : ℕ) → IsFree used number → IsOneMore used (with_use used number true)
