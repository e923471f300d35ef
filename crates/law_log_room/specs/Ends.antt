-- Jobs that are begun and run to their end.
use Rattle.std.specs.Prelude.{◌≡◌, Bool, false, IsTrue, List, [], ◌∷◌, None, Result, Ok, Err}
use Rattle.disk.specs.Areas.{AreSound}
use Rattle.group.specs.declared.answers.PumpFault.{PumpFault}
use Rattle.commits.specs.Values.{last}
use Rattle.log_store.specs.Archives.{StartsArchive}
use Rattle.log_store.specs.Jobs.{PumpsJob}
use Rattle.log_store.specs.Reclaims.{StartsReclaim}
use Rattle.log_store.specs.Values.{LogStoreValue, IsInStep}
use Rattle.log_store.specs.declared.job.JobDid.{JobDid}
use Rattle.log_store.specs.declared.job.StartFault.{StartFault}
use Rattle.log_store.specs.declared.job.StartFault.TheVariants as fault

-- a step of a job, whatever its answer
pub record Steps (tells : Bool) (old new : LogStoreValue) : Type 0 where
  pub answer : Result JobDid PumpFault
  pub sound : IsTrue tells → AreSound new.disk.areas
  pub is : PumpsJob tells old answer new

-- steps of it lead from one store through these to another; each is made on a store that is in step
abbrev pub StepsTo : Bool → LogStoreValue → List LogStoreValue → LogStoreValue → Type 0
StepsTo tells old [] new = new ≡ old
StepsTo tells old (next ∷ rest) new = IsInStep old × Steps tells old next × StepsTo tells next rest new

-- the job is over, and the store works
pub record RunsOut (tells : Bool) (begun new : LogStoreValue) : Type 0 where
  pub between : List LogStoreValue
  pub steps : StepsTo tells begun between new
  pub works : new.commits.failed ≡ false
  pub job : new.job ≡ None
  pub reclaim : new.reclaim ≡ None

-- the job that was begun runs to its end, or there was nothing to do
abbrev pub Ends : Bool → Result (Unit {0}) StartFault → LogStoreValue → LogStoreValue → Type 0
Ends tells (Ok done) begun new = RunsOut tells begun new
Ends tells (Err fault.NothingToDo) begun new = new ≡ begun
Ends tells (Err fault.Failed) begun new = ⊥
Ends tells (Err fault.WrongProfile) begun new = ⊥
Ends tells (Err fault.JobBusy) begun new = ⊥
Ends tells (Err (fault.NotYet time)) begun new = ⊥
Ends tells (Err (fault.InUse time)) begun new = ⊥
Ends tells (Err fault.HeapFull) begun new = ⊥
Ends tells (Err fault.ArchiveFull) begun new = ⊥
Ends tells (Err fault.NoMemory) begun new = ⊥

-- a reclaim from its beginning to its end, where there is one to do
pub record Reclaims (tells : Bool) (old new : LogStoreValue) : Type 0 where
  pub step : IsInStep old
  pub answer : Result (Unit {0}) StartFault
  pub begun : LogStoreValue
  pub starts : StartsReclaim old answer begun
  pub ends : Ends tells answer begun new

-- an archive of all that is published, so
pub record ArchivesAll (tells : Bool) (old new : LogStoreValue) : Type 0 where
  pub step : IsInStep old
  pub answer : Result (Unit {0}) StartFault
  pub begun : LogStoreValue
  pub starts : StartsArchive old (last old.commits) answer begun
  pub ends : Ends tells answer begun new
