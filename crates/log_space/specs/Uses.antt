-- Which extents of a heap are in use. The flag of extent n stands at place n - 1 of a list of flags, and is true where that extent is in use.
use Rattle.std.specs.Prelude.{◌≡◌, ℕ, ◌-◌, ◌<◌, ◌≤◌, ◌^◌, Bool, true, false, List, [], ◌∷◌, slice_set, length, sum_by}
use Rattle.std.proofs.Math.ListN.{get_or}

-- the heap has an extent of this number, and it is free
pub record IsFree (used : List Bool) (number : ℕ) : Type 0 where
  pub low : 0 < number
  pub high : number ≤ length used
  pub is : get_or used (number - 1) true ≡ false

-- the extent gets this flag, and the others keep theirs
abbrev pub with_use : List Bool → ℕ → Bool → List Bool
with_use used number flag = slice_set used (number - 1) flag

-- each of these is taken into use
abbrev pub all_used : List Bool → List ℕ → List Bool
all_used used [] = used
all_used used (n ∷ ns) = all_used (with_use used n true) ns

-- how many are in use
abbrev pub one_if_used : Bool → ℕ
one_if_used true = 1
one_if_used false = 0

abbrev pub used_count : List Bool → ℕ
used_count used = sum_by one_if_used used

-- the least free one
pub record IsLeastFree (used : List Bool) (number : ℕ) : Type 0 where
  pub free : IsFree used number
  pub least : (other : ℕ) → IsFree used other → number ≤ other

-- so many from the first on are in use
abbrev pub AreUsed : List Bool → ℕ → Type 0
AreUsed used count = (i : ℕ) → i < count → get_or used i true ≡ true

-- the flags of all extents, how many a search passes, and the right count of those in use
pub record AreUses (used : List Bool) (passed count : ℕ) : Type 0 where
  pub used_len : length used < 2 ^ 32
  pub passed_are : AreUsed used passed
  pub count_is : count ≡ used_count used

-- the place of the least free one
pub record IsLeastPlace (used : List Bool) (place : ℕ) : Type 0 where
  pub within : place < length used
  pub free : get_or used place true ≡ false
  pub least : (i : ℕ) → i < place → get_or used i true ≡ true

-- no extent is free
abbrev pub HasNoFree : List Bool → Type 0
HasNoFree used = (i : ℕ) → get_or used i true ≡ true
