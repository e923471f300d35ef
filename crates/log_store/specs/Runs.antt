-- The writing of an archive's run.
use Rattle.std.specs.Prelude.{ℕ, ◌≡◌, ◌+◌, Bool, true, false, IsTrue, List, [], ◌∷◌, length, take, drop, Some, Result, Ok, Err, MatchResult}
use Rattle.std.specs.Prelude.{if◌then◌else◌}
use Rattle.disk.specs.Areas.{Areas}
use Rattle.disk.specs.Calls.{Counts, Writes, Syncs, refused_answer}
use Rattle.disk.specs.declared.area.Area.TheVariants as areas
use Rattle.disk.specs.declared.area.DeviceFault.{DeviceFault}
use Rattle.archive.specs.Pieces.{InWriting}
use Rattle.group.specs.declared.answers.PumpFault.{PumpFault}
use Rattle.group.specs.declared.answers.PumpFault.TheVariants as pump
use Rattle.log_store.specs.Values.{LogStoreValue}
use Rattle.log_store.specs.Pumps.{with_failure}
use Rattle.log_store.specs.declared.job.Job.{Job}
use Rattle.log_store.specs.declared.job.JobDid.{JobDid}
use Rattle.log_store.specs.declared.job.JobDid.TheVariants as did
use Rattle.log_store.specs.declared.job.JobStage.{JobStage}
use Rattle.log_store.specs.declared.job.JobStage.TheVariants.{Writing, Ready, Entering}

-- the next piece of the run
abbrev pub piece_of : InWriting → List ℕ
piece_of writer = take 8192 writer.left

-- the writer behind it
abbrev pub behind_piece : InWriting → InWriting
behind_piece writer = record writer { at = writer.at + length (piece_of writer); left = drop 8192 writer.left }

-- the device call, by what is left of the run: its next piece is written to its place, or all of it is synced
abbrev pub CallsWith : List ℕ → InWriting → Result (Unit {0}) DeviceFault → Areas → Areas → Type 0
CallsWith [] writer result old new = Syncs areas.Archive result old new
CallsWith (b ∷ bs) writer result old new = Writes areas.Archive writer.at (piece_of writer) result old new

-- what it did
abbrev pub did_with : List ℕ → JobDid
did_with [] = did.RunSynced
did_with (b ∷ bs) = did.WroteRun

-- The stage behind it, made or refused: the writer stands behind its piece whatever the device answered, and once all is synced the entry is next.
abbrev pub stage_with : List ℕ → InWriting → Bool → JobStage
stage_with [] writer made = if made then Ready false else Writing writer
stage_with (b ∷ bs) writer made = Writing (behind_piece writer)

-- ---- by the stage of a job

abbrev pub CallsAt : JobStage → Result (Unit {0}) DeviceFault → Areas → Areas → Type 0
CallsAt (Writing writer) result old new = CallsWith writer.left writer result old new
CallsAt (Ready waited) result old new = ⊥
CallsAt (Entering w) result old new = ⊥

abbrev pub did_at : JobStage → JobDid
did_at (Writing writer) = did_with writer.left
did_at (Ready waited) = did.Idle
did_at (Entering w) = did.Idle

abbrev pub stage_behind : JobStage → Bool → JobStage
stage_behind (Writing writer) made = stage_with writer.left writer made
stage_behind (Ready waited) made = Ready waited
stage_behind (Entering w) made = Entering w

abbrev pub behind : Job → Bool → Job
behind job made = record job { stage = stage_behind job.stage made }

-- ---- a step

-- the answer of a device call by that of its step
abbrev pub disk_answer : Result JobDid PumpFault → Result (Unit {0}) DeviceFault
disk_answer (Ok what) = Ok tt
disk_answer (Err why) = refused_answer

-- the store with this job
abbrev pub with_job_as : LogStoreValue → Job → LogStoreValue
with_job_as v job = record v { job = Some job }

-- The run's next device call is made, or it is refused and the store has failed.
pub record WritesRun (tells : Bool) (job : Job) (old : LogStoreValue) (result : Result JobDid PumpFault) (new : LogStoreValue) : Type 0 where
  pub call : IsTrue tells → CallsAt job.stage (disk_answer result) old.disk.areas new.disk.areas
  pub counts : Counts (disk_answer result) old.disk new.disk
  pub answer : MatchResult result (λ what. (what ≡ did_at job.stage) × (new ≡ record (with_job_as old (behind job true)) { disk = new.disk }))
      (λ why. (why ≡ pump.Failed) × (new ≡ record (with_failure (with_job_as old (behind job false))) { disk = new.disk }))
