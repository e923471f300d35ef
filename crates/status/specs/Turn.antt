-- Where a device call leads.
use Rattle.std.specs.Prelude.{◌≡◌, ◌+◌, false}
use Rattle.status.specs.SlotCalls.{SlotStage, Begun, BodyWritten, BodySynced, GateWritten, Opened}
use Rattle.status.specs.TurnState.{TurnState, LogState}
use Rattle.status.specs.declared.turn.Step.{Step}
use Rattle.status.specs.declared.turn.Step.TheVariants.{More, Open}

-- what the device call of a stage leads to: the next stage, or the slot that is open
abbrev pub IsStep : SlotStage → TurnState → Step → Type 0
IsStep Begun turn (More next) = next ≡ record turn { stage = BodyWritten }
IsStep BodyWritten turn (More next) = next ≡ record turn { stage = BodySynced }
IsStep BodySynced turn (More next) = next ≡ record turn { stage = GateWritten }
IsStep GateWritten turn (Open number) = number ≡ turn.number
-- nothing else
IsStep Begun turn (Open number) = ⊥
IsStep BodyWritten turn (Open number) = ⊥
IsStep BodySynced turn (Open number) = ⊥
IsStep GateWritten turn (More next) = ⊥
IsStep Opened turn (More next) = ⊥
IsStep Opened turn (Open number) = ⊥

-- what the call of a turn leads to
abbrev pub IsStepOf : TurnState → Step → Type 0
IsStepOf turn step = IsStep turn.stage turn step

-- the log after it
abbrev pub moved : Step → LogState → LogState
moved (More turn) log = log
moved (Open number) log = record log { used = number + 1; writing = false }
