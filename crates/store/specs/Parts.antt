-- A store by its parts.
use Rattle.std.specs.Prelude.{◌≡◌, ◌+◌, ◌<◌, ◌≤◌, ◌^◌, ℕ, Option, MatchOption}
use Rattle.disk.specs.Calls.{DiskState}
use Rattle.status.specs.TurnState.{TurnState, LogState}
use Rattle.group.specs.Values.{TransactionsValue}
use Rattle.store.specs.Values.{ArchiveValue, StoreValue}
use Rattle.store.specs.declared.job.Job.{Job}
use Rattle.store.specs.declared.job.JobWork.{JobWork}
use Rattle.store.specs.declared.job.JobWork.TheVariants.{Archive, Reclaim, Floor, Grow}
use Rattle.store.specs.declared.job.JobStage.{JobStage}
use Rattle.store.specs.declared.job.JobStage.TheVariants.{Writing, Stored, Turning}
use Rattle.store.specs.declared.job.JobDid.{JobDid}
use Rattle.store.specs.declared.job.JobDid.TheVariants as did
use Rattle.store.specs.declared.slot_calls.SlotCall.{SlotCall}
use Rattle.store.specs.declared.slot_calls.SlotCall.TheVariants as calls

-- a store of these parts
abbrev pub parts_of : TransactionsValue → LogState → Option TurnState → Option Job → ℕ → ℕ → ArchiveValue → DiskState → StoreValue
parts_of transactions log turn job archived runs_end archive disk =
    record { transactions = transactions; log = log; turn = turn; job = job; archived = archived; runs_end = runs_end; archive = archive; disk = disk }

-- what a step of a job did that made this call of its slot
abbrev pub job_did_of : SlotCall → JobDid
job_did_of calls.BodyWritten = did.BodyWritten
job_did_of calls.BodySynced = did.BodySynced
job_did_of calls.GateWritten = did.GateWritten

-- a run ends before the greatest place
abbrev pub IsInPlace : JobWork → Type 0
IsInPlace (Archive run writer) = run.start + run.len < 2 ^ 63
IsInPlace (Reclaim anchors source written) = Unit {0}
IsInPlace (Floor scope floor floors) = Unit {0}
IsInPlace (Grow growth) = Unit {0}

-- a job may be at this stage: one of a floor has nothing to be written before its slot, and a growth has no slot
abbrev pub IsStageOf : JobWork → JobStage → Type 0
IsStageOf (Archive run writer) stage = Unit {0}
IsStageOf (Reclaim anchors source written) stage = Unit {0}
IsStageOf (Floor scope floor floors) Writing = ⊥
IsStageOf (Floor scope floor floors) Stored = Unit {0}
IsStageOf (Floor scope floor floors) (Turning turn) = Unit {0}
IsStageOf (Grow growth) Writing = Unit {0}
IsStageOf (Grow growth) Stored = ⊥
IsStageOf (Grow growth) (Turning turn) = ⊥

-- a piece is made behind the slots and the pieces that the log has, and there is room for it
abbrev pub GrowsBehind : JobWork → LogState → Type 0
GrowsBehind (Archive run writer) log = Unit {0}
GrowsBehind (Reclaim anchors source written) log = Unit {0}
GrowsBehind (Floor scope floor floors) log = Unit {0}
GrowsBehind (Grow growth) log = (growth.slots ≡ log.slots) × (growth.piece ≡ log.pieces) × (growth.slots + 256 ≤ 65536)

-- The log has at most so many slots. The run of a job ends before the greatest place, the job is at a stage of its kind, and a piece comes next.
pub record IsInRange (v : StoreValue) : Type 0 where
  pub slots : v.log.slots ≤ 65536
  pub run : MatchOption v.job (Unit {0}) (λ job. IsInPlace job.work)
  pub stage : MatchOption v.job (Unit {0}) (λ job. IsStageOf job.work job.stage)
  pub behind : MatchOption v.job (Unit {0}) (λ job. GrowsBehind job.work v.log)
