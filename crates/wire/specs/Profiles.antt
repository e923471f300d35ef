-- Which profiles there are.
use Rattle.std.specs.Prelude.{ℕ, ◌≤◌}

-- the number of a profile
abbrev pub IsProfile : ℕ → Type 0
IsProfile number = (1 ≤ number) × (number ≤ 3)
