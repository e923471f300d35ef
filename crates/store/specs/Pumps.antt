-- The steps of a group to the disk.
use Rattle.std.specs.Prelude.{◌≡◌, ◌+◌, ◌⊎◌, Bool, true, false, is_some, IsTrue, [], length, Option, Some, None, Result, Ok, Err, MatchBool, MatchOption}
use Rattle.std.specs.Prelude.{MatchResult}
use Rattle.disk.specs.Areas.{Areas}
use Rattle.disk.specs.Calls.{DiskState, Writes, Syncs, Counts, refused_answer}
use Rattle.disk.specs.declared.area.Area.TheVariants.{Heap}
use Rattle.disk.specs.declared.area.DeviceFault.{DeviceFault}
use Rattle.wire.specs.declared.slot.Body.{Body}
use Rattle.wire.specs.Spelling.{spelling}
use Rattle.deltas.specs.Extents.{extent_start}
use Rattle.status.specs.SlotCalls.{SlotStage, IsSlotCall}
use Rattle.status.specs.SlotCalls as slots
use Rattle.status.specs.TurnState.{TurnState, LogState}
use Rattle.group.specs.declared.answers.Did.{Did}
use Rattle.group.specs.declared.answers.Did.TheVariants as did
use Rattle.group.specs.declared.answers.PumpFault.{PumpFault}
use Rattle.group.specs.declared.answers.PumpFault.TheVariants as fault
use Rattle.group.specs.declared.queued.StoredExtent.{StoredExtent}
use Rattle.group.specs.Values.{TransactionsValue}
use Rattle.group.specs.Steps.{next_step, grouped, next_extent, wrote_extent, is_stale, freshened, at_stage, entries, IsCommitOf, published, broken}
use Rattle.group.specs.declared.stage.GroupStage.TheVariants as stages
use Rattle.group.specs.declared.stage.NextStep.{NextStep}
use Rattle.group.specs.declared.stage.NextStep.TheVariants as step
use Rattle.store.specs.Values.{StoreValue, KeepsJob, turn_of}
use Rattle.store.specs.declared.slot_calls.SlotCall.{SlotCall}
use Rattle.store.specs.declared.slot_calls.SlotCall.TheVariants as calls

-- what the disk answered in a step that was done, and in one that was not
abbrev pub disk_answer : {T : Type 0} → Result T PumpFault → Result (Unit {0}) DeviceFault
disk_answer (Ok what) = Ok tt
disk_answer (Err why) = refused_answer

-- the one device call of a step, which is counted
pub record Calls {T : Type 0} (tells : Bool) (call : Result (Unit {0}) DeviceFault → Areas → Areas → Type 0) (result : Result T PumpFault)
    (old new : DiskState) : Type 0 where
  pub areas : IsTrue tells → call (disk_answer result) old.areas new.areas
  pub counts : Counts (disk_answer result) old new

-- a step between the device calls of a slot: it is done, or the device refused it and the store has failed
pub record Steps (what : Did) (after : TransactionsValue) (old : StoreValue) (result : Result Did PumpFault) (new : StoreValue) : Type 0 where
  pub answer : MatchResult result (λ said. (said ≡ what) × (new.transactions ≡ after))
      (λ why. (why ≡ fault.Failed) × (new.transactions ≡ broken old.transactions))
  pub log : new.log ≡ old.log
  pub turn : new.turn ≡ old.turn
  pub job : KeepsJob old new

-- the group's next extent is written to its place
pub record WritesExtent (tells : Bool) (stored : StoredExtent) (old : StoreValue) (result : Result Did PumpFault) (new : StoreValue) : Type 0 where
  -- all its bytes, and no more
  pub whole : length stored.image ≡ 8192
  pub call : Calls tells (Writes Heap (extent_start stored.extent) stored.image) result old.disk new.disk
  pub steps : Steps did.WroteExtent (wrote_extent old.transactions) old result new

-- the heap is synced, which stores the group, or the device refused it
pub record SyncsHeap (tells : Bool) (old : StoreValue) (result : Result Did PumpFault) (new : StoreValue) : Type 0 where
  pub call : Calls tells (Syncs Heap) result old.disk new.disk
  pub steps : Steps did.HeapSynced (at_stage stages.Stored old.transactions) old result new

-- a store of these parts, on which no job runs
abbrev pub store_of : TransactionsValue → LogState → Option TurnState → DiskState → StoreValue
store_of transactions log turn disk = record {
  transactions = transactions;
  log = log;
  turn = turn;
  job = None;
  archived = 0;
  runs_end = 0;
  archive = record { runs = []; next = []; kept = [] };
  disk = disk;
}

-- what a step of a group did that made this call of its slot
abbrev pub did_of : SlotCall → Did
did_of calls.BodyWritten = did.BodyWritten
did_of calls.BodySynced = did.BodySynced
did_of calls.GateWritten = did.GateWritten

-- what a device call of a slot leads to: the last one publishes the group
abbrev pub IsTurned : SlotStage → TurnState → StoreValue → Did → StoreValue → Type 0
IsTurned slots.Begun turn old what new =
    (what ≡ did.BodyWritten) × (new.transactions ≡ old.transactions) × (new.log ≡ old.log) × (new.turn ≡ Some (record turn { stage = slots.BodyWritten }))
IsTurned slots.BodyWritten turn old what new =
    (what ≡ did.BodySynced) × (new.transactions ≡ old.transactions) × (new.log ≡ old.log) × (new.turn ≡ Some (record turn { stage = slots.BodySynced }))
IsTurned slots.BodySynced turn old what new =
    (what ≡ did.GateWritten) × (new.transactions ≡ old.transactions) × (new.log ≡ old.log) × (new.turn ≡ Some (record turn { stage = slots.GateWritten }))
IsTurned slots.GateWritten turn old what new = (what ≡ did.Published old.transactions.group) × (new.transactions ≡ published old.transactions)
    × (new.log ≡ record old.log { used = turn.number + 1; writing = false }) × (new.turn ≡ None)
IsTurned slots.Opened turn old what new = ⊥

-- a refused call spends the slot's turn, and the slot stays in the writing
pub record TurnFails (old : StoreValue) (why : PumpFault) (new : StoreValue) : Type 0 where
  pub fault : why ≡ fault.Failed
  pub transactions : new.transactions ≡ broken old.transactions
  pub log : new.log ≡ old.log
  pub turn : new.turn ≡ None

-- the next device call of a slot in the writing
pub record TurnsSlot (tells : Bool) (turn : TurnState) (old : StoreValue) (result : Result Did PumpFault) (new : StoreValue) : Type 0 where
  pub call : Calls tells (IsSlotCall turn.number turn.body turn.stage) result old.disk new.disk
  pub answer : MatchResult result (λ what. IsTurned turn.stage turn old what new) (λ why. TurnFails old why new)
  pub job : KeepsJob old new

-- the group's slot is in the writing
abbrev pub taken : StoreValue → StoreValue
taken v = record v { transactions = at_stage stages.Turning v.transactions; log = record v.log { writing = true } }

-- the slot that comes next is begun with this body
abbrev pub TakesSlot : Bool → Body → StoreValue → Result Did PumpFault → StoreValue → Type 0
TakesSlot tells body old result new = TurnsSlot tells (record {
  number = old.log.used;
  body = spelling old.log.profile (record { number = old.log.used; body = body });
  stage = slots.Begun;
}) (taken old) result new

-- the group's versions have forgotten what a reclaim has ended
abbrev pub freshly : StoreValue → StoreValue
freshly v = record v { transactions = freshened v.transactions }

-- the group's slot is in the writing, and its versions have forgotten what a reclaim has ended
abbrev pub begun : StoreValue → StoreValue
begun v = taken (freshly v)

-- it names the group's commits
pub record BeginsSlot (tells : Bool) (old : StoreValue) (result : Result Did PumpFault) (new : StoreValue) : Type 0 where
  pub body : Body
  pub commit : IsCommitOf (entries old.transactions) body
  pub turns : TakesSlot tells body (freshly old) result new

-- where the group's versions are to forget what a reclaim has ended, they are made beforehand; there may be no memory for that: then nothing has changed
abbrev pub MayBeginSlot : Bool → StoreValue → Result Did PumpFault → StoreValue → Type 0
MayBeginSlot tells old result new = ((is_stale old.transactions ≡ true) × (result ≡ Err fault.NoMemory) × (new ≡ old)) ⊎ BeginsSlot tells old result new

-- where no group stands and commits wait, one begins
abbrev pub started : StoreValue → StoreValue
started v = record v { transactions = grouped v.transactions }

-- a step of a group, by what comes next; a slot is begun where no job's is in the writing
abbrev pub TakesStep : Bool → NextStep → StoreValue → Result Did PumpFault → StoreValue → Type 0
TakesStep tells step.Idle old result new = (result ≡ Ok did.Idle) × (new ≡ old)
TakesStep tells step.WriteExtent old result new = MatchOption (next_extent old.transactions) ⊥ (λ stored. WritesExtent tells stored old result new)
TakesStep tells step.SyncHeap old result new = SyncsHeap tells old result new
TakesStep tells step.BeginSlot old result new =
    MatchBool (is_some (turn_of old.job)) ((result ≡ Err fault.Busy) × (new ≡ old)) (MayBeginSlot tells old result new)
TakesStep tells step.AdvanceSlot old result new = MatchOption old.turn ⊥ (λ turn. TurnsSlot tells turn old result new)

-- a failed store writes nothing; any other takes the next step. While a job's slot is in the writing a group begins none.
abbrev pub Pumps : Bool → StoreValue → Result Did PumpFault → StoreValue → Type 0
Pumps tells old result new =
    MatchBool old.transactions.failed ((result ≡ Err fault.Failed) × (new ≡ old)) (TakesStep tells (next_step old.transactions) (started old) result new)
