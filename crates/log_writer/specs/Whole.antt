-- A chain of extents that is written whole, while no log names it.
use Rattle.std.specs.Prelude.{ℕ, ◌≡◌, ◌*◌, ◌==◌, ◌≤◌, ◌^◌, List, length, drop, map, if◌then◌else◌}
use Rattle.std.specs.List.{AllByRecursion}
use Rattle.log_extents.specs.Chains.{count_of, chain_of, IsNumberOf}
use Rattle.log_writer.specs.Turns.{Part, extent_part}

-- its extents, and what is left to be written of them
pub record WholeState : Type 0 where
  pub numbers : List ℕ
  pub left : List Part

-- all that is written of it, in order
abbrev pub whole_parts : ℕ → ℕ → List ℕ → List ℕ → List Part
whole_parts gate link numbers content = map extent_part (chain_of gate link numbers content)

-- gate and link stand in its head alone
abbrev pub at_head : ℕ → ℕ → ℕ
at_head value index = if index == 0 then value else 0

-- what is left of it once so many extents are written
abbrev pub parts_left : ℕ → ℕ → List ℕ → List ℕ → ℕ → List Part
parts_left gate link numbers content written =
    whole_parts (at_head gate written) (at_head link written) (drop written numbers) (drop (8168 * written) content)

-- extents of the heap, as many as its bytes need, of which no more are written than there are
pub record IsWhole (numbers content : List ℕ) (written : ℕ) : Type 0 where
  pub count : length numbers ≡ count_of (length content)
  pub in_range : AllByRecursion (IsNumberOf (2 ^ 20)) numbers
  pub within : written ≤ length numbers
