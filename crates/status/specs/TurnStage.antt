use Rattle.status.specs.SlotCalls as calls
use Rattle.status.specs.declared.turn.Stage.{Stage}
use Rattle.status.specs.declared.turn.Stage.TheVariants.{Begun, BodyWritten, BodySynced, GateWritten}

-- what the code calls the stages before a slot is open
abbrev pub stage_of : Stage → calls.SlotStage
stage_of Begun = calls.Begun
stage_of BodyWritten = calls.BodyWritten
stage_of BodySynced = calls.BodySynced
stage_of GateWritten = calls.GateWritten
