-- The writing of one slot, of any kind, between two layouts.
use Rattle.std.specs.Prelude.{◌≡◌, ◌⊎◌, ◌<◌, List, [], ◌∷◌, ◌++◌, length}
use Rattle.disk.specs.Areas.{AreaState, Areas}
use Rattle.wire.specs.declared.slot.Slot.{Slot}
use Rattle.law_layout.specs.Layouts.{Layout}
use Rattle.law_layout.specs.Keeping.{StatusRests, IsBodyWritten, IsBodySynced, IsGateWritten, KeepsParts}
use Rattle.status.specs.declared.header.Header.{Header}
use Rattle.status.specs.Header.{total}
use Rattle.status.specs.SlotCalls.{SlotStage, Begun, BodyWritten, BodySynced, GateWritten, Opened}

-- the new layout has this slot behind those of the old one
pub record Adds (header : Header) (old : Layout) (slot : Slot) (new : Layout) : Type 0 where
  pub slots_are : new.slots ≡ old.slots ++ slot ∷ []
  pub room : length old.slots < total header

-- the status area at a stage
abbrev pub StatusAt : Header → List Slot → Slot → SlotStage → AreaState → Type 0
StatusAt header slots slot Begun a = StatusRests header slots a
StatusAt header slots slot BodyWritten a = IsBodyWritten header slots slot a
StatusAt header slots slot BodySynced a = IsBodySynced header slots slot a
StatusAt header slots slot GateWritten a = IsGateWritten header slots slot a
StatusAt header slots slot Opened a = StatusRests header (slots ++ slot ∷ []) a

-- the areas at a stage: the other two keep what either layout names
pub record IsTurnAt (header : Header) (old : Layout) (slot : Slot) (new : Layout) (stage : SlotStage) (areas : Areas) : Type 0 where
  pub status : StatusAt header old.slots slot stage areas.status
  pub old_parts : KeepsParts old areas
  pub new_parts : KeepsParts new areas

-- of two claims, which holds at a stage before its call
abbrev pub MayAt : SlotStage → Type 0 → Type 0 → Type 0
MayAt Begun Old New = Old
MayAt BodyWritten Old New = Old
MayAt BodySynced Old New = Old
MayAt GateWritten Old New = Old ⊎ New
MayAt Opened Old New = New

-- and which within its call and after it, made or refused
abbrev pub MayWithin : SlotStage → Type 0 → Type 0 → Type 0
MayWithin Begun Old New = Old
MayWithin BodyWritten Old New = Old
MayWithin BodySynced Old New = Old ⊎ New
MayWithin GateWritten Old New = Old ⊎ New
MayWithin Opened Old New = New
