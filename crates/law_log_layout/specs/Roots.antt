-- The way from one root to the other, one device call at a time. The status area names two roots, and the turn gate says which one counts.
use Rattle.std.specs.Prelude.{ℕ, ◌≤◌, ◌+◌, ◌⊎◌, Bool, true, false, List, [], ◌∷◌, Result, if◌then◌else◌, MatchBool}
use Rattle.disk.specs.Areas.{AreaState, Areas}
use Rattle.disk.specs.Parts.{HoldsPart, KeepsPart}
use Rattle.disk.specs.Calls.{Writes, Syncs}
use Rattle.disk.specs.declared.area.Area.TheVariants.{Status}
use Rattle.disk.specs.declared.area.DeviceFault.{DeviceFault}
use Rattle.law_log_layout.specs.Turns.{HoldsAll, KeepsAll, IsClosed, KeepsClosed, AreApartFrom}
use Rattle.log_writer.specs.Turns.{open_gate, Part}

-- the place of the turn gate, and those of the roots: the second one counts where the gate is open
abbrev pub turn_place : ℕ
turn_place = 16

-- the place of the root that counts where the turn gate is open, and where it is closed
abbrev pub root_place : Bool → ℕ
root_place turned = if turned then 24 else 20

-- the other way round
abbrev pub other : Bool → Bool
other turned = if turned then false else true

-- the byte that turns the gate
abbrev pub turn_byte : Bool → ℕ
turn_byte turned = if turned then open_gate else 0

-- the gate says that this root counts
abbrev pub IsTurned : Bool → List ℕ → Type 0
IsTurned turned content = MatchBool turned (HoldsPart turn_place (open_gate ∷ []) content) (IsClosed turn_place content)

-- and whatever a stop may leave says so
abbrev pub KeepsTurned : Bool → AreaState → Type 0
KeepsTurned turned a = MatchBool turned (KeepsPart turn_place (open_gate ∷ []) a) (KeepsClosed turn_place a)

-- The status area has all else that a header has, and the root that counts is this one.
pub record NamesRoot (header : List Part) (turned : Bool) (root content : List ℕ) : Type 0 where
  pub rest : HoldsAll header content
  pub is : HoldsPart (root_place turned) root content
  pub counts : IsTurned turned content

-- what a header has besides lies apart from both roots and from the gate
pub record IsHeaderApart (header : List Part) : Type 0 where
  pub gate : AreApartFrom (record { place = turn_place; bytes = 0 ∷ [] }) header
  pub roots : (turned : Bool) → AreApartFrom (record { place = root_place turned; bytes = 0 ∷ 0 ∷ 0 ∷ 0 ∷ [] }) header

-- where the turn is: the other root is to be written; that is to be synced; the gate is to be turned; that is to be synced; the other root counts
pub data Stage : Type 0 where
  Writing : Stage
  Syncing : Stage
  Turning : Stage
  Settling : Stage
  Done : Stage

-- the device call of a stage, with its answer, from the root that counts to the other one, which has these bytes
abbrev pub IsCallOf : Bool → List ℕ → Stage → Result (Unit {0}) DeviceFault → Areas → Areas → Type 0
IsCallOf turned root Writing result old new = Writes Status (root_place (other turned)) root result old new
IsCallOf turned root Syncing result old new = Syncs Status result old new
IsCallOf turned root Turning result old new = Writes Status turn_place (turn_byte (other turned) ∷ []) result old new
IsCallOf turned root Settling result old new = Syncs Status result old new
IsCallOf turned root Done result old new = ⊥

-- the stage after a call that was answered Ok
abbrev pub stage_after : Stage → Stage
stage_after Writing = Syncing
stage_after Syncing = Turning
stage_after Turning = Settling
stage_after Settling = Done
stage_after Done = Done

-- whatever a stop may leave names this root
pub record Rests (header : List Part) (turned : Bool) (root : List ℕ) (a : AreaState) : Type 0 where
  pub rest : KeepsAll header a
  pub is : KeepsPart (root_place turned) root a
  pub counts : KeepsTurned turned a

-- the other root is written
pub record IsWritten (header : List Part) (turned : Bool) (old new : List ℕ) (a : AreaState) : Type 0 where
  pub rests : Rests header turned old a
  pub written : HoldsPart (root_place (other turned)) new a.bytes

-- and on the disk
pub record IsSynced (header : List Part) (turned : Bool) (old new : List ℕ) (a : AreaState) : Type 0 where
  pub rests : Rests header turned old a
  pub written : KeepsPart (root_place (other turned)) new a

-- the gate is turned, and may be torn
pub record IsTurning (header : List Part) (turned : Bool) (old new : List ℕ) (a : AreaState) : Type 0 where
  pub rest : KeepsAll header a
  pub is : KeepsPart (root_place turned) old a
  pub written : KeepsPart (root_place (other turned)) new a
  pub inside : turn_place + 1 ≤ a.firm
  pub gate : HoldsPart turn_place (turn_byte (other turned) ∷ []) a.bytes

-- the status area at a stage
abbrev pub IsAt : List Part → Bool → List ℕ → List ℕ → Stage → AreaState → Type 0
IsAt header turned old new Writing a = Rests header turned old a
IsAt header turned old new Syncing a = IsWritten header turned old new a
IsAt header turned old new Turning a = IsSynced header turned old new a
IsAt header turned old new Settling a = IsTurning header turned old new a
IsAt header turned old new Done a = Rests header (other turned) new a

-- of two claims, which holds of what a stop may leave at a stage, before its call
abbrev pub MayBe : Stage → Type 0 → Type 0 → Type 0
MayBe Writing Old New = Old
MayBe Syncing Old New = Old
MayBe Turning Old New = Old
MayBe Settling Old New = Old ⊎ New
MayBe Done Old New = New

-- and which within its call and after it, made or refused
abbrev pub MayBecome : Stage → Type 0 → Type 0 → Type 0
MayBecome Writing Old New = Old
MayBecome Syncing Old New = Old
MayBecome Turning Old New = Old ⊎ New
MayBecome Settling Old New = Old ⊎ New
MayBecome Done Old New = New
