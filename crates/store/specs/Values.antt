-- What a clause sees of a store.
use Rattle.std.specs.Prelude.{◌≡◌, ◌+◌, ◌||◌, ℕ, false, Option, None, Some, is_some, MatchOption}
use Rattle.disk.specs.Calls.{DiskState}
use Rattle.status.specs.SlotCalls.{SlotStage, Begun, BodyWritten, BodySynced, GateWritten, Opened}
use Rattle.status.specs.TurnState.{TurnState, LogState}
use Rattle.timequery.specs.Archives as archives
use Rattle.group.specs.Values.{TransactionsValue, is_turning}
use Rattle.store.specs.declared.job.Job.{Job}
use Rattle.store.specs.declared.job.JobWork.{JobWork}
use Rattle.store.specs.declared.job.JobWork.TheVariants.{Archive, Reclaim, Floor, Grow}
use Rattle.store.specs.declared.job.JobStage.{JobStage}
use Rattle.store.specs.declared.job.JobStage.TheVariants.{Writing, Stored, Turning}

-- what it has of its archive
abbrev pub ArchiveValue : Type 0
ArchiveValue = archives.ArchiveValue

-- a store: its transactions and log, the slot and the job in the making, its archive and its disk
pub record StoreValue : Type 0 where
  pub transactions : TransactionsValue
  pub log : LogState
  -- the group's slot while it is in the writing
  pub turn : Option TurnState
  -- the job that runs
  pub job : Option Job
  -- the archive mark, and where the last run of the log ends
  pub archived : ℕ
  pub runs_end : ℕ
  pub archive : ArchiveValue
  pub disk : DiskState

-- what a group's steps do not touch
pub record KeepsJob (old new : StoreValue) : Type 0 where
  pub job : new.job ≡ old.job
  pub archived : new.archived ≡ old.archived
  pub runs_end : new.runs_end ≡ old.runs_end
  pub archive : new.archive ≡ old.archive

-- but for its transactions, the store is what it was
pub record HasRest (old new : StoreValue) : Type 0 where
  pub log : new.log ≡ old.log
  pub turn : new.turn ≡ old.turn
  pub disk : new.disk ≡ old.disk
  pub job : KeepsJob old new

-- the slot of a job while it is in the writing
abbrev pub turn_in : JobStage → Option TurnState
turn_in Writing = None
turn_in Stored = None
turn_in (Turning turn) = Some turn

-- the slot of the job that runs, while it is in the writing
abbrev pub turn_of : Option Job → Option TurnState
turn_of None = None
turn_of (Some job) = turn_in job.stage

-- the slots that a job holds for its own; a growth holds none
abbrev pub lent_by : JobWork → ℕ
lent_by (Archive run writer) = 1
lent_by (Reclaim anchors source written) = 1
lent_by (Floor scope floor floors) = 1
lent_by (Grow growth) = 0

-- the slots that the job which runs holds for its own, 0 if none runs
abbrev pub lent_to : Option Job → ℕ
lent_to None = 0
lent_to (Some job) = lent_by job.work

-- a device call of the slot is made, and another is to come
abbrev pub IsOnItsWay : SlotStage → Type 0
IsOnItsWay Begun = ⊥
IsOnItsWay BodyWritten = Unit {0}
IsOnItsWay BodySynced = Unit {0}
IsOnItsWay GateWritten = Unit {0}
IsOnItsWay Opened = ⊥

-- The slot in the writing is the group's or the job's, and the next one of the log.
pub record TurnsOne (v : StoreValue) : Type 0 where
  pub turning : is_turning v.transactions.stage ≡ is_some v.turn
  pub writing : v.log.writing ≡ (is_some v.turn || is_some (turn_of v.job))
  pub turn : MatchOption v.turn (Unit {0}) (λ t. (t.number ≡ v.log.used) × IsOnItsWay t.stage)
  pub job : MatchOption (turn_of v.job) (Unit {0}) (λ t. (t.number ≡ v.log.used) × IsOnItsWay t.stage × (v.turn ≡ None))

-- What holds of a store by itself: the log's counts are those of the transactions, but for a slot that is lent to a job.
pub record IsInStep (v : StoreValue) : Type 0 where
  pub slots : v.log.slots ≡ v.transactions.slots + lent_to v.job
  pub used : v.log.used ≡ v.transactions.used
  pub turns : v.transactions.failed ≡ false → TurnsOne v
