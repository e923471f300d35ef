-- The room of a store is that of its whole heap.
use Rattle.std.proofs.Common.{◌≡◌, ℕ, length, Option, None, Some}
use Rattle.history.specs.Histories.{History}
use Rattle.law_image.specs.Values.{Value}
use Rattle.log_writer.specs.Writer.{WriterState}
use Rattle.log_store.specs.Values.{LogStoreValue}
use Rattle.log_store.specs.declared.job.Job.{Job}
use Rattle.log_store.specs.declared.job.JobStage.{JobStage}
use Rattle.log_store.specs.declared.job.JobStage.TheVariants.{Writing, Ready, Entering}
use Rattle.log_store.specs.declared.job.JobWork.{JobWork}
use Rattle.law_log_store.specs.Standing.{StandsOnHeap, HasTurn, HasJob, HasStage}

module _ (v : LogStoreValue) (h queue : History Value) (floors : ℕ → ℕ) (s : StandsOnHeap v h queue floors) where
  used-at : (work : JobWork) (k : JobStage) → HasStage v s.l s.reading s.made work k → length v.room.used ≡ v.roots.extents
  used-at work (Writing writer) is = (is.room).many
  used-at work (Ready waited) is = (is.room).many
  used-at work (Entering w) is = (is.room).many

  used-by : (j : Option Job) → HasJob v s.l s.reading s.made j → length v.room.used ≡ v.roots.extents
  used-by None is = (is.room).many
  used-by (Some job) is = used-at job.work job.stage is

  used-in : (t : Option WriterState) → HasTurn v queue s.l s.reading s.made h t → length v.room.used ≡ v.roots.extents
  used-in None is = used-by v.job is
  used-in (Some w) is = (is.room).many

  pub used-are : length v.room.used ≡ v.roots.extents
  used-are = used-in v.turn s.turn
