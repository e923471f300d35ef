-- The log's own rules: which slot may follow others.
use Rattle.std.specs.Prelude.{◌≡◌, ℕ, ◌+◌, ◌==◌, ◌&&◌, ◌||◌, Bool, IsTrue, List, [], ◌∷◌, map, flat_map, take, slice_get, Some}
use Rattle.wire.specs.Spelling.{kind_of}
use Rattle.wire.specs.declared.slot.Member.{Member as Entry}
use Rattle.wire.specs.declared.slot.Run.{Run}
use Rattle.wire.specs.declared.slot.Body.{Body}
use Rattle.wire.specs.declared.slot.Body.TheVariants.{Commit, Archived, Reclaimed, Floor}
use Rattle.wire.specs.declared.slot.Slot.{Slot}
use Rattle.law_image.specs.Reading as readings
use Rattle.law_image.specs.Log.{MayCome}

-- Which kinds of slot are built, in which profiles. A store of a profile is read once its commits are built.
abbrev pub is_built : ℕ → ℕ → Bool
is_built profile kind = ((profile == 1) || ((profile == 2) || (profile == 3))) && ((kind == 1) || ((kind == 2) || ((kind == 3) || (kind == 4))))

-- ---- a slot as the rules see it

-- the time and the label of a commit, as its slot says them
abbrev pub head_of : Entry → readings.Head
head_of entry = record { time = entry.time; label = entry.label }

-- a slot of the reading
abbrev pub slot_of : Body → readings.Slot
slot_of (Commit members) = readings.Commits (map head_of members.items)
slot_of (Archived run) = readings.Archived run.upto
slot_of (Reclaimed anchors) = readings.Reclaimed anchors.upto
slot_of (Floor relation floor) = readings.Floor relation floor

-- these slots as the reading has them
abbrev pub log_of : List Slot → List readings.Slot
log_of slots = map (λ s. slot_of s.body) slots

-- ---- runs

-- the run that a slot names, if it is that of an archive
abbrev pub runs_in : Body → List Run
runs_in (Commit members) = []
runs_in (Archived run) = run ∷ []
runs_in (Reclaimed anchors) = []
runs_in (Floor relation floor) = []

-- the runs that these slots name, in the order of the log
abbrev pub runs_of : List Slot → List Run
runs_of slots = flat_map (λ s. runs_in s.body) slots

-- where the last of these runs ends
abbrev pub row_end : ℕ → List Run → ℕ
row_end place [] = place
row_end place (run ∷ runs) = row_end (run.start + run.len) runs

-- each run starts at the end of the one before it
abbrev pub AreInRow : ℕ → List Run → Type 0
AreInRow place [] = Unit {0}
AreInRow place (run ∷ runs) = (run.start ≡ place) × AreInRow (run.start + run.len) runs

-- ---- the rules

-- the slot may follow these
pub record MayFollow (profile : ℕ) (before : List Slot) (slot : Slot) : Type 0 where
  pub built : IsTrue (is_built profile (kind_of slot.body))
  pub may_come : MayCome profile (log_of before) (slot_of slot.body)
  pub in_row : AreInRow (row_end 0 (runs_of before)) (runs_in slot.body)

-- each of these slots may follow those before it
abbrev pub KeepsRules : ℕ → List Slot → Type 0
KeepsRules profile slots = (n : ℕ) (slot : Slot) → slice_get slots n ≡ Some slot → MayFollow profile (take n slots) slot
