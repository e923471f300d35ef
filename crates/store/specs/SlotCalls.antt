-- The device calls of a slot in the writing, a group's or a job's.
use Rattle.std.specs.Prelude.{◌≡◌, ◌+◌, false}
use Rattle.status.specs.SlotCalls.{SlotStage}
use Rattle.status.specs.SlotCalls as slots
use Rattle.status.specs.TurnState.{TurnState, LogState}
use Rattle.store.specs.declared.slot_calls.SlotCall.{SlotCall}
use Rattle.store.specs.declared.slot_calls.SlotCall.TheVariants as calls
use Rattle.store.specs.declared.slot_calls.SlotStep.{SlotStep}
use Rattle.store.specs.declared.slot_calls.SlotStep.TheVariants.{More, Opened}

-- the call that leads to a stage, before the last one
abbrev pub call_before : SlotStage → SlotCall
call_before slots.Begun = calls.BodyWritten
call_before slots.BodyWritten = calls.BodyWritten
call_before slots.BodySynced = calls.BodySynced
call_before slots.GateWritten = calls.GateWritten
call_before slots.Opened = calls.GateWritten

-- what a device call of a slot leads to, and the log after it: the last one opens the slot
abbrev pub IsCalled : SlotStage → TurnState → LogState → SlotStep → LogState → Type 0
IsCalled slots.Begun turn old step new = (step ≡ More calls.BodyWritten (record turn { stage = slots.BodyWritten })) × (new ≡ old)
IsCalled slots.BodyWritten turn old step new = (step ≡ More calls.BodySynced (record turn { stage = slots.BodySynced })) × (new ≡ old)
IsCalled slots.BodySynced turn old step new = (step ≡ More calls.GateWritten (record turn { stage = slots.GateWritten })) × (new ≡ old)
IsCalled slots.GateWritten turn old step new = (step ≡ Opened) × (new ≡ record old { used = turn.number + 1; writing = false })
IsCalled slots.Opened turn old step new = ⊥
