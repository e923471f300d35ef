-- The four device calls that write a slot.
use Rattle.std.specs.Prelude.{ℕ, ◌+◌, List, [], ◌∷◌, Result, Ok, Err}
use Rattle.disk.specs.Areas.{Areas}
use Rattle.disk.specs.Calls.{Writes, Syncs}
use Rattle.disk.specs.declared.area.Area.TheVariants.{Status}
use Rattle.disk.specs.declared.area.DeviceFault.{DeviceFault}
use Rattle.status.specs.Log.{slot_start}

-- what is done of a slot
pub data SlotStage : Type 0 where
  Begun : SlotStage
  BodyWritten : SlotStage
  BodySynced : SlotStage
  GateWritten : SlotStage
  Opened : SlotStage

-- the device call of a stage, with its answer, for the slot of this number with these bytes behind its gate
abbrev pub IsSlotCall : ℕ → List ℕ → SlotStage → Result (Unit {0}) DeviceFault → Areas → Areas → Type 0
IsSlotCall number body Begun result old new = Writes Status (slot_start number + 1) body result old new
IsSlotCall number body BodyWritten result old new = Syncs Status result old new
IsSlotCall number body BodySynced result old new = Writes Status (slot_start number) (0xC7 ∷ []) result old new
IsSlotCall number body GateWritten result old new = Syncs Status result old new
IsSlotCall number body Opened result old new = ⊥

-- the stage once the device call of this one was made
abbrev pub slot_stage_after : SlotStage → SlotStage
slot_stage_after Begun = BodyWritten
slot_stage_after BodyWritten = BodySynced
slot_stage_after BodySynced = GateWritten
slot_stage_after GateWritten = Opened
slot_stage_after Opened = Opened

-- an answer without its value
abbrev pub answer_of : {T E : Type 0} → Result T E → Result (Unit {0}) E
answer_of (Ok value) = Ok tt
answer_of (Err fault) = Err fault
