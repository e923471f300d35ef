-- Numbers: a place, the stamp of the place, and the tag of the store.
use Rattle.std.specs.Prelude.{ℕ, ◌/◌, ◌%◌}

-- the place, in the lowest 16 bits
abbrev pub place_in : ℕ → ℕ
place_in number = number % 65536

-- the stamp of the place, in the 32 bits above
abbrev pub stamp_in : ℕ → ℕ
stamp_in number = number / 65536 % 4294967296

-- the tag of the store, in the 15 bits above those
abbrev pub tag_in : ℕ → ℕ
tag_in number = number / 65536 / 4294967296
