-- The way from one root to the other, one device call at a time.
use Rattle.std.specs.Prelude.{ℕ, Bool, true, false, List, [], ◌∷◌, Result, if◌then◌else◌}
use Rattle.disk.specs.Areas.{Areas}
use Rattle.disk.specs.Calls.{Writes, Syncs}
use Rattle.disk.specs.declared.area.Area.TheVariants.{Status}
use Rattle.disk.specs.declared.area.DeviceFault.{DeviceFault}
use Rattle.log_roots.specs.declared.roots.Roots.{Roots}
use Rattle.log_roots.specs.declared.turning.Step.{Step}
use Rattle.log_roots.specs.declared.turning.Step.TheVariants as step
use Rattle.log_roots.specs.declared.turning.RootWrote.{RootWrote}
use Rattle.log_roots.specs.declared.turning.RootWrote.TheVariants as wrote

-- the place of the turn gate
abbrev pub turn_place : ℕ
turn_place = 16

-- the place of the root that counts where the turn gate is open, and where it is closed
abbrev pub root_place : Bool → ℕ
root_place turned = if turned then 24 else 20

-- the other way round
abbrev pub other : Bool → Bool
other turned = if turned then false else true

-- the byte that turns the gate
abbrev pub turn_byte : Bool → ℕ
turn_byte turned = if turned then 0xC7 else 0

-- where the turn is: the other root is to be written; that is to be synced; the gate is to be turned; that is to be synced; the other root counts
pub data Stage : Type 0 where
  Writing : Stage
  Syncing : Stage
  Turning : Stage
  Settling : Stage
  Done : Stage

-- the device call of a stage, with its answer, from the root that counts to the other one, which has these bytes
abbrev pub IsCallOf : Bool → List ℕ → Stage → Result (Unit {0}) DeviceFault → Areas → Areas → Type 0
IsCallOf turned root Writing result old new = Writes Status (root_place (other turned)) root result old new
IsCallOf turned root Syncing result old new = Syncs Status result old new
IsCallOf turned root Turning result old new = Writes Status turn_place (turn_byte (other turned) ∷ []) result old new
IsCallOf turned root Settling result old new = Syncs Status result old new
IsCallOf turned root Done result old new = ⊥

-- the stage after a call that was answered Ok
abbrev pub stage_after : Stage → Stage
stage_after Writing = Syncing
stage_after Syncing = Turning
stage_after Turning = Settling
stage_after Settling = Done
stage_after Done = Done

-- the roots once the other one, which is this number, counts
abbrev pub turned_to : Roots → ℕ → Roots
turned_to r root = record {
  extents = r.extents;
  turned = other r.turned;
  root_0 = if r.turned then root else r.root_0;
  root_1 = if r.turned then r.root_1 else root;
}

-- ---- a turn on its way

-- the roots as they were before it, the number that the other root gets, and how far it is
pub record RootTurnState : Type 0 where
  pub roots : Roots
  pub root : ℕ
  pub stage : Stage

-- a turn of which nothing is written yet
abbrev pub turn_of : Roots → ℕ → RootTurnState
turn_of roots root = record { roots = roots; root = root; stage = Writing }

-- the turn at another stage
abbrev pub with_stage : RootTurnState → Stage → RootTurnState
with_stage t stage = record t { stage = stage }

-- the stage of a step
abbrev pub stage_of : Step → Stage
stage_of step.Writing = Writing
stage_of step.Syncing = Syncing
stage_of step.Turning = Turning
stage_of step.Settling = Settling
stage_of step.Done = Done

-- what the call of a stage did
abbrev pub did : Stage → RootWrote
did Writing = wrote.Root
did Syncing = wrote.RootSynced
did Turning = wrote.Turn
did Settling = wrote.Settled
did Done = wrote.Settled

-- a call is still to be made
abbrev pub IsOnItsWay : Stage → Type 0
IsOnItsWay Writing = Unit {0}
IsOnItsWay Syncing = Unit {0}
IsOnItsWay Turning = Unit {0}
IsOnItsWay Settling = Unit {0}
IsOnItsWay Done = ⊥

-- the gate is to be turned
abbrev pub is_turning : Stage → Bool
is_turning Writing = false
is_turning Syncing = false
is_turning Turning = true
is_turning Settling = false
is_turning Done = false

-- the gate is turned, and that is to be synced
abbrev pub is_settling : Stage → Bool
is_settling Writing = false
is_settling Syncing = false
is_settling Turning = false
is_settling Settling = true
is_settling Done = false
