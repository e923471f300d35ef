-- The bytes of an extent while its records are written.
use Rattle.std.specs.Prelude.{◌≡◌, ℕ, ◌-◌, ◌≤◌, List, length, take, drop, replicate}

-- from this place on nothing has changed
abbrev pub IsSameFrom : ℕ → List ℕ → List ℕ → Type 0
IsSameFrom place old new = (n : ℕ) → place ≤ n → drop n new ≡ drop n old

-- behind the header's 16 bytes stand so many of records, and zeros behind these
pub record IsBegun (bytes : List ℕ) (used : ℕ) : Type 0 where
  pub len : length bytes ≡ 8192
  pub fits : used ≤ 8176
  pub zeros : drop used (drop 16 bytes) ≡ replicate (8176 - used) 0

-- the bytes of the records
abbrev pub records_in : List ℕ → ℕ → List ℕ
records_in bytes used = take used (drop 16 bytes)
