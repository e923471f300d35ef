-- The steps of a job to the disk.
use Rattle.std.specs.Prelude.{◌≡◌, ◌<◌, ◌≤◌, ◌+◌, ◌⊎◌, ℕ, Bool, true, false, List, [], ◌∷◌, length, take, drop, slice_get, is_some, Option, Some, None, Result}
use Rattle.std.specs.Prelude.{Ok, Err, MatchBool, MatchOption, MatchResult}
use Rattle.disk.specs.Calls.{Writes, Syncs}
use Rattle.disk.specs.declared.area.Area.{Area}
use Rattle.disk.specs.declared.area.Area.TheVariants as areas
use Rattle.wire.specs.declared.slot.Anchors.{Anchors}
use Rattle.wire.specs.declared.slot.Body.{Body}
use Rattle.wire.specs.declared.slot.Body.TheVariants as bodies
use Rattle.wire.specs.declared.slot.Run.{Run}
use Rattle.wire.specs.Spelling.{spelling}
use Rattle.archive.specs.Pieces.{InWriting}
use Rattle.deltas.specs.Chains.{first_number}
use Rattle.deltas.specs.Extents.{extent_start}
use Rattle.deltas.specs.Filling.{IsFilled}
use Rattle.deltas.specs.declared.filled_extent.FilledExtent.{FilledExtent}
use Rattle.vacuum.specs.Anchors.{Sourced}
use Rattle.status.specs.Growth.{IsGrowthCall, growth_after, grew_at, with_piece}
use Rattle.status.specs.GrowthState.{GrowthState}
use Rattle.status.specs.declared.growth.Grew.{Grew}
use Rattle.status.specs.declared.growth.Grew.TheVariants as grew
use Rattle.status.specs.SlotCalls.{SlotStage, IsSlotCall}
use Rattle.status.specs.SlotCalls as slots
use Rattle.status.specs.TurnState.{TurnState}
use Rattle.group.specs.declared.answers.PumpFault.{PumpFault}
use Rattle.group.specs.declared.answers.PumpFault.TheVariants as fault
use Rattle.group.specs.Steps.{broken}
use Rattle.group.specs.Reclaims.{prepared, reclaimed_to}
use Rattle.group.specs.Values.{with_slot_used, with_more_slots, with_floors}
use Rattle.timequery.specs.Archives.{with_next_run}
use Rattle.store.specs.Values.{StoreValue}
use Rattle.store.specs.Pumps.{Calls}
use Rattle.store.specs.declared.job.Job.{Job}
use Rattle.store.specs.declared.job.JobWork.{JobWork}
use Rattle.store.specs.declared.job.JobWork.TheVariants.{Archive, Reclaim, Floor, Grow}
use Rattle.store.specs.declared.job.JobStage.{JobStage}
use Rattle.store.specs.declared.job.JobStage.TheVariants as stages
use Rattle.store.specs.declared.job.JobDid.{JobDid}
use Rattle.store.specs.declared.job.JobDid.TheVariants as did

-- the job while what its slot names is being written
abbrev pub writing : JobWork → Job
writing work = record { work = work; stage = stages.Writing }

-- the job once that is written and synced
abbrev pub stored : JobWork → Job
stored work = record { work = work; stage = stages.Stored }

-- the store with another job, after a call of the disk
abbrev pub with_job : StoreValue → Job → StoreValue → StoreValue
with_job old job new = record old { job = Some job; disk = new.disk }

-- the device refused the call: the store has failed
abbrev pub job_fails : StoreValue → Job → StoreValue → StoreValue
job_fails old job new = record old { transactions = broken old.transactions; job = Some job; disk = new.disk }

-- a step before the slot is done and leads to one job, or the device refused it and it leads to another
abbrev pub JobMoves : JobDid → Job → Job → StoreValue → Result JobDid PumpFault → StoreValue → Type 0
JobMoves what made refused old result new =
    MatchResult result (λ said. (said ≡ what) × (new ≡ with_job old made new)) (λ why. (why ≡ fault.Failed) × (new ≡ job_fails old refused new))

-- what the job made is synced
pub record SyncsStored (tells : Bool) (area : Area) (what : JobDid) (job : Job) (old : StoreValue) (result : Result JobDid PumpFault)
    (new : StoreValue) : Type 0 where
  pub call : Calls tells (Syncs area) result old.disk new.disk
  pub moves : JobMoves what (record job { stage = stages.Stored }) job old result new

-- ---- a run

-- the next piece of the run is written; the writer stands behind it, whatever the device answered
abbrev pub piece_of : InWriting → List ℕ
piece_of writer = take 8192 writer.left

-- the writer behind that piece
abbrev pub behind_piece : InWriting → InWriting
behind_piece writer = record writer { at = writer.at + length (piece_of writer); left = drop 8192 writer.left }

-- the next piece of the run is written to its place, or the device refused it
pub record WritesRun (tells : Bool) (run : Run) (writer : InWriting) (job : Job) (old : StoreValue) (result : Result JobDid PumpFault)
    (new : StoreValue) : Type 0 where
  pub call : Calls tells (Writes areas.Archive writer.at (piece_of writer)) result old.disk new.disk
  pub moves : JobMoves did.WroteRun (record job { work = Archive run (behind_piece writer) })
      (record job { work = Archive run (behind_piece writer) }) old result new

-- while bytes of the run are left they are written, and then it is synced
abbrev pub WritesOrSyncs : Bool → List ℕ → Run → InWriting → Job → StoreValue → Result JobDid PumpFault → StoreValue → Type 0
WritesOrSyncs tells [] run writer job old result new = SyncsStored tells areas.Archive did.RunSynced job old result new
WritesOrSyncs tells (b ∷ bs) run writer job old result new = WritesRun tells run writer job old result new

-- ---- anchors

-- The next extent of the anchors is written to its place, all its bytes: as many of the records that are left as it
-- holds. The walk stands behind them, whatever the device answered.
pub record WritesAnchors (tells : Bool) (anchors : Anchors) (source : Sourced) (written number : ℕ) (job : Job) (old : StoreValue)
    (result : Result JobDid PumpFault) (new : StoreValue) : Type 0 where
  pub image : List ℕ
  pub filled : FilledExtent
  pub behind : Sourced
  pub is_filled : IsFilled number (first_number (drop (written + 1) old.transactions.reserved)) source.left image filled behind.left
  pub whole : length image ≡ 8192
  pub call : Calls tells (Writes areas.Heap (extent_start number) image) result old.disk new.disk
  pub moves : JobMoves did.WroteExtent (record job { work = Reclaim anchors behind (written + 1) })
      (record job { work = Reclaim anchors behind (written + 1) }) old result new

-- while extents are left they are written, and then the heap is synced
abbrev pub AnchorsOrSync : Bool → Option ℕ → Anchors → Sourced → ℕ → Job → StoreValue → Result JobDid PumpFault → StoreValue → Type 0
AnchorsOrSync tells None anchors source written job old result new = SyncsStored tells areas.Heap did.HeapSynced job old result new
AnchorsOrSync tells (Some number) anchors source written job old result new = WritesAnchors tells anchors source written number job old result new

-- ---- a piece of slots

-- the job that makes it
abbrev pub growing : GrowthState → Job
growing growth = writing (Grow growth)

-- the store once it is open: its slots are the log's, and no job runs
abbrev pub grown_store : GrowthState → StoreValue → StoreValue → StoreValue
grown_store growth old new = record old { transactions = with_more_slots 256 old.transactions; log = with_piece growth old.log; job = None; disk = new.disk }

-- what a device call of it leads to, and is said to have done
abbrev pub HasGrown : Grew → GrowthState → StoreValue → JobDid → StoreValue → Type 0
HasGrown grew.WroteZeros growth old what new = (what ≡ did.WroteZeros) × (new ≡ with_job old (growing (growth_after growth)) new)
HasGrown grew.ZerosSynced growth old what new = (what ≡ did.ZerosSynced) × (new ≡ with_job old (growing (growth_after growth)) new)
HasGrown grew.GateWritten growth old what new = (what ≡ did.GateWritten) × (new ≡ with_job old (growing (growth_after growth)) new)
HasGrown grew.Grown growth old what new = (what ≡ did.JobDone) × (old.transactions.slots + 256 ≤ 65536) × (new ≡ grown_store growth old new)

-- the next device call of the piece, which stands behind it whatever the device answered
pub record Grows (tells : Bool) (growth : GrowthState) (old : StoreValue) (result : Result JobDid PumpFault) (new : StoreValue) : Type 0 where
  pub call : Calls tells (IsGrowthCall growth.stage growth.slots growth.piece) result old.disk new.disk
  pub answer : MatchResult result (λ what. HasGrown (grew_at growth.stage) growth old what new)
      (λ why. (why ≡ fault.Failed) × (new ≡ job_fails old (growing (growth_after growth)) new))

-- ---- by its kind

-- The next step before its slot. A floor has none, and all of a growth's are such.
abbrev pub Stores : Bool → JobWork → Job → StoreValue → Result JobDid PumpFault → StoreValue → Type 0
Stores tells (Archive run writer) job old result new = WritesOrSyncs tells writer.left run writer job old result new
Stores tells (Reclaim anchors source written) job old result new =
    AnchorsOrSync tells (slice_get old.transactions.reserved written) anchors source written job old result new
Stores tells (Floor scope floor floors) job old result new = ⊥
Stores tells (Grow growth) job old result new = Grows tells growth old result new

-- what the job's slot says; nothing is asked of a growth, which has none
abbrev pub slot_body : JobWork → Body
slot_body (Archive run writer) = bodies.Archived run
slot_body (Reclaim anchors source written) = bodies.Reclaimed anchors
slot_body (Floor scope floor floors) = bodies.Floor scope floor
slot_body (Grow growth) = bodies.Floor None 0

-- what is made in memory before the slot is begun, and whether there may be no memory for it
abbrev pub made_ready : JobWork → StoreValue → StoreValue
made_ready (Archive run writer) v = v
made_ready (Reclaim anchors source written) v = record v { transactions = prepared v.transactions anchors.upto }
made_ready (Floor scope floor floors) v = v
made_ready (Grow growth) v = v

-- a job of this kind takes memory before its slot is begun, which may be refused
abbrev pub TakesMemory : JobWork → Type 0
TakesMemory (Archive run writer) = ⊥
TakesMemory (Reclaim anchors source written) = Unit {0}
TakesMemory (Floor scope floor floors) = ⊥
TakesMemory (Grow growth) = ⊥

-- what stands once the slot is open
abbrev pub work_done : JobWork → StoreValue → StoreValue
work_done (Archive run writer) v = record v { archived = run.upto; runs_end = run.start + run.len; archive = with_next_run v.archive }
work_done (Reclaim anchors source written) v = record v { transactions = reclaimed_to v.transactions anchors.upto }
work_done (Floor scope floor floors) v = record v { transactions = with_floors v.transactions floors }
work_done (Grow growth) v = v

-- ---- the slot

-- the slot is the log's, and no job runs
abbrev pub slot_opened : StoreValue → TurnState → StoreValue → StoreValue
slot_opened v turn new = record v {
  transactions = with_slot_used v.transactions;
  log = record v.log { used = turn.number + 1; writing = false };
  job = None;
  disk = new.disk;
}

-- the store once the job's slot is open
abbrev pub job_done : StoreValue → Job → TurnState → StoreValue → StoreValue
job_done old job turn new = slot_opened (work_done job.work old) turn new

-- what a device call of the job's slot leads to
abbrev pub IsJobTurned : SlotStage → TurnState → Job → StoreValue → JobDid → StoreValue → Type 0
IsJobTurned slots.Begun turn job old what new =
    (what ≡ did.BodyWritten) × (new ≡ with_job old (record job { stage = stages.Turning (record turn { stage = slots.BodyWritten }) }) new)
IsJobTurned slots.BodyWritten turn job old what new =
    (what ≡ did.BodySynced) × (new ≡ with_job old (record job { stage = stages.Turning (record turn { stage = slots.BodySynced }) }) new)
IsJobTurned slots.BodySynced turn job old what new =
    (what ≡ did.GateWritten) × (new ≡ with_job old (record job { stage = stages.Turning (record turn { stage = slots.GateWritten }) }) new)
IsJobTurned slots.GateWritten turn job old what new = (what ≡ did.JobDone) × (old.transactions.slots < 65536) × (new ≡ job_done old job turn new)
IsJobTurned slots.Opened turn job old what new = ⊥

-- a refused call spends the slot's turn, and the slot stays in the writing
abbrev pub JobTurnFails : Job → StoreValue → PumpFault → StoreValue → Type 0
JobTurnFails job old why new = (why ≡ fault.Failed) × (new ≡ job_fails old (record job { stage = stages.Stored }) new)

-- the next device call of the job's slot
pub record TurnsJob (tells : Bool) (job : Job) (turn : TurnState) (old : StoreValue) (result : Result JobDid PumpFault) (new : StoreValue) : Type 0 where
  pub call : Calls tells (IsSlotCall turn.number turn.body turn.stage) result old.disk new.disk
  pub answer : MatchResult result (λ what. IsJobTurned turn.stage turn job old what new) (λ why. JobTurnFails job old why new)

-- the slot that comes next is begun: it names what the job made
abbrev pub first_turn : StoreValue → Job → TurnState
first_turn v job =
    record { number = v.log.used; body = spelling v.log.profile (record { number = v.log.used; body = slot_body job.work }); stage = slots.Begun }

-- the next slot of the log is in the writing
abbrev pub slot_taken : StoreValue → StoreValue
slot_taken v = record v { log = record v.log { writing = true } }

-- or there is no memory, and nothing has changed
abbrev pub BeginsJobSlot : Bool → Job → StoreValue → Result JobDid PumpFault → StoreValue → Type 0
BeginsJobSlot tells job old result new = (TakesMemory job.work × (result ≡ Err fault.NoMemory) × (new ≡ old))
    ⊎ TurnsJob tells job (first_turn old job) (slot_taken (made_ready job.work old)) result new

-- ---- every step

-- while a group's slot is in the writing the job begins none
abbrev pub TakesJobStep : Bool → JobStage → Job → StoreValue → Result JobDid PumpFault → StoreValue → Type 0
TakesJobStep tells stages.Writing job old result new = Stores tells job.work job old result new
TakesJobStep tells stages.Stored job old result new =
    MatchBool (is_some old.turn) ((result ≡ Err fault.Busy) × (new ≡ old)) (BeginsJobSlot tells job old result new)
TakesJobStep tells (stages.Turning turn) job old result new = TurnsJob tells job turn old result new

-- a failed store writes nothing; where no job runs nothing is done
abbrev pub PumpsJob : Bool → StoreValue → Result JobDid PumpFault → StoreValue → Type 0
PumpsJob tells old result new = MatchBool old.transactions.failed ((result ≡ Err fault.Failed) × (new ≡ old))
    (MatchOption old.job ((result ≡ Ok did.Idle) × (new ≡ old)) (λ job. TakesJobStep tells job.stage job old result new))
