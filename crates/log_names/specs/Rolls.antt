-- Rolls that are right, and what a search of them gives.
use Rattle.std.specs.Prelude.{ℕ, ◌≡◌, ◌+◌, ◌<◌, ◌≤◌, ◌==◌, List, [], ◌∷◌, map, filter, Contains}
use Rattle.std.specs.List.{AllByRecursion}
use Rattle.law_image.specs.Reading.{Head}
use Rattle.archive.specs.Digits.{digits}
use Rattle.archive.specs.declared.fault.ArchiveFault.{ArchiveFault}
use Rattle.archive.specs.declared.fault.ArchiveFault.TheVariants.{Device, NoMemory, Damaged}
use Rattle.log_entries.specs.declared.entry.Roll.{Roll}
use Rattle.law_log_layout.specs.HeapLog.{PlacedRoll, HoldsRoll, IsStoredRoll, AreNamesOf}
use Rattle.log_names.specs.Standing.{roll_end, name_count}

-- the times of the commits of a label
abbrev pub times_named : ℕ → List Head → List ℕ
times_named label heads = map (λ (head : Head). head.time) (filter (λ (head : Head). head.label == label) heads)

-- none of these is later
abbrev pub AreUpTo : ℕ → List Head → Type 0
AreUpTo upto heads = AllByRecursion (λ (head : Head). head.time ≤ upto) heads

-- the roll of these names
abbrev pub placed_roll : Roll → List Head → PlacedRoll
placed_roll roll heads = record { roll = roll; names = heads }

-- The area holds the roll, of the names of these commits, which are in order and no later than this time.
pub record HoldsNames (area : List ℕ) (upto : ℕ) (roll : Roll) (heads : List Head) : Type 0 where
  pub held : HoldsRoll area (placed_roll roll heads)
  pub stored : IsStoredRoll (placed_roll roll heads)
  pub early : AreUpTo upto heads

-- The area holds these rolls, which name these commits, each once, and none later than this time.
pub record HoldRolls (area : List ℕ) (upto : ℕ) (rolls : List Roll) (heads : List Head) : Type 0 where
  pub placed : List PlacedRoll
  pub rolls_are : map (λ (r : PlacedRoll). r.roll) placed ≡ rolls
  pub held : AllByRecursion (HoldsRoll area) placed
  pub stored : AllByRecursion IsStoredRoll placed
  pub named : AreNamesOf placed heads
  pub early : AreUpTo upto heads

-- each of these rolls ends by this place
abbrev pub RollsEndBy : ℕ → List Roll → Type 0
RollsEndBy limit rolls = AllByRecursion (λ (roll : Roll). roll_end roll ≤ limit) rolls

-- a refusal, or that one of these rolls is damaged
abbrev pub IsFaultIn : List Roll → ArchiveFault → Type 0
IsFaultIn rolls Device = Unit {0}
IsFaultIn rolls NoMemory = Unit {0}
IsFaultIn rolls (Damaged start) = Contains (map (λ (roll : Roll). roll.start) rolls) start

-- the names that a search reads at most, beside one for each time that it finds
abbrev pub names_to_read : List Roll → ℕ
names_to_read [] = 0
names_to_read (roll ∷ rolls) = digits (name_count roll) + 1 + names_to_read rolls
