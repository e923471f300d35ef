-- What a clause sees of a chain in the writing.
use Rattle.std.specs.Prelude.{ℕ, ◌≡◌, ◌<◌, ◌≤◌, ◌^◌, Bool, true, false, List, [], ◌∷◌, length, take, drop}
use Rattle.std.specs.List.{AllByRecursion}
use Rattle.log_extents.specs.Chains.{count_of, IsNumberOf}
use Rattle.log_writer.specs.Turns.{Part, Turn, chain_turn, Stage}
use Rattle.log_writer.specs.Turns as turns
use Rattle.log_writer.specs.declared.writer.Step.{Step}
use Rattle.log_writer.specs.declared.writer.Step.TheVariants.{Writing, Syncing, Opening, Settling, Done}
use Rattle.log_writer.specs.declared.writer.Wrote.{Wrote}
use Rattle.log_writer.specs.declared.writer.Wrote.TheVariants as wrote

-- the extents that it takes, the one where the log goes on behind it, its bytes, and how far it is
pub record WriterState : Type 0 where
  pub numbers : List ℕ
  pub link : ℕ
  pub content : List ℕ
  pub stage : Stage

-- its calls
abbrev pub turn : WriterState → Turn
turn w = chain_turn w.numbers w.link w.content

-- so many of the parts are written, or all of them and more
abbrev pub stage_of : List Part → Step → Stage
stage_of parts (Writing written) = turns.Writing (take written parts) (drop written parts)
stage_of parts Syncing = turns.Syncing
stage_of parts Opening = turns.Opening
stage_of parts Settling = turns.Settling
stage_of parts Done = turns.Done

-- no more parts are written than there are
abbrev pub IsStepOf : ℕ → Step → Type 0
IsStepOf count (Writing written) = written ≤ count
IsStepOf count Syncing = Unit {0}
IsStepOf count Opening = Unit {0}
IsStepOf count Settling = Unit {0}
IsStepOf count Done = Unit {0}

-- a chain of some extents, each a number of the heap, as many as its bytes need
pub record IsWriter (numbers : List ℕ) (link : ℕ) (content : List ℕ) (step : Step) : Type 0 where
  pub some : 0 < length numbers
  pub count : length numbers ≡ count_of (length content)
  pub in_range : AllByRecursion (IsNumberOf (2 ^ 20)) numbers
  pub link_low : 0 < link
  pub link_high : link ≤ 2 ^ 20
  pub within : IsStepOf (length numbers) step

-- what the call of a stage did
abbrev pub did : Stage → Wrote
did (turns.Writing done (p ∷ rest)) = wrote.Extent
did (turns.Writing done []) = wrote.ClosedGate
did turns.Syncing = wrote.Synced
did turns.Opening = wrote.Gate
did turns.Settling = wrote.Settled
did turns.Done = wrote.Settled

-- a call is still to be made
abbrev pub IsOnItsWay : Stage → Type 0
IsOnItsWay (turns.Writing done rest) = Unit {0}
IsOnItsWay turns.Syncing = Unit {0}
IsOnItsWay turns.Opening = Unit {0}
IsOnItsWay turns.Settling = Unit {0}
IsOnItsWay turns.Done = ⊥

-- the chain at another stage
abbrev pub with_stage : WriterState → Stage → WriterState
with_stage w stage = record w { stage = stage }

-- its gate is to be opened
abbrev pub is_opening : Stage → Bool
is_opening (turns.Writing done rest) = false
is_opening turns.Syncing = false
is_opening turns.Opening = true
is_opening turns.Settling = false
is_opening turns.Done = false

-- its gate is open, and that is to be synced
abbrev pub is_settling : Stage → Bool
is_settling (turns.Writing done rest) = false
is_settling turns.Syncing = false
is_settling turns.Opening = false
is_settling turns.Settling = true
is_settling turns.Done = false
