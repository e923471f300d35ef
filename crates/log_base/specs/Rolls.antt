-- A roll on its way to the archive.
use Rattle.std.specs.Prelude.{ℕ, List, [], ◌∷◌, length, Option, None, Some}
use Rattle.log_entries.specs.declared.entry.Roll.{Roll}

-- where its next piece goes, and the bytes that are left
pub record InRoll : Type 0 where
  pub at : ℕ
  pub left : List ℕ

-- the roll with these bytes, from this place of the archive on, if there are some
abbrev pub roll_of : ℕ → List ℕ → Option Roll
roll_of start [] = None
roll_of start (b ∷ bytes) = Some (record { start = start; len = length (b ∷ bytes) })
