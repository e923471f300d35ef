-- The beginning of an archive.
use Rattle.std.specs.Prelude.{ℕ, ◌≡◌, ◌+◌, ◌^◌, ◌<◌, ◌≤◌, ◌==◌, nat_le, nat_lt, is_some, List, [], ◌∷◌, ◌++◌, length, Option, Some, None, Result, Ok, Err}
use Rattle.std.specs.Prelude.{MatchOption, if◌then◌else◌}
use Rattle.law_image.specs.Reading.{ArchiveRecord}
use Rattle.wire.specs.Spelling.{IsRun}
use Rattle.archive.specs.Runs.{run_bytes}
use Rattle.archive.specs.declared.run.RunEntry.{RunEntry}
use Rattle.vacuum.specs.Archives.{records_of, run_of, unwritten}
use Rattle.vacuum.specs.declared.archive_walk.Since.{Since}
use Rattle.group.specs.Values.{spare, with_slot_lent}
use Rattle.store.specs.Calls.{last, floors}
use Rattle.store.specs.Values.{StoreValue}
use Rattle.wire.specs.declared.slot.Run.{Run}
use Rattle.archive.specs.Pieces.{InWriting}
use Rattle.store.specs.declared.job.Job.{Job}
use Rattle.store.specs.declared.job.JobStage.{JobStage}
use Rattle.store.specs.declared.job.JobStage.TheVariants.{Writing}
use Rattle.store.specs.declared.job.JobWork.TheVariants.{Archive}
use Rattle.store.specs.declared.job.StartFault.{StartFault}
use Rattle.store.specs.declared.job.StartFault.TheVariants as fault

-- An archive that is being made: its run as the slot will name it, what is left of it to be written, and what is done of it.
pub record ArchiveJob : Type 0 where
  pub run : Run
  pub writer : InWriting
  pub stage : JobStage

-- the job that makes it
abbrev pub job_of : ArchiveJob → Job
job_of j = record { work = Archive j.run j.writer; stage = j.stage }

-- why no archive up to a time begins, by what is known before its run is counted: the first reason in this order
abbrev pub refusal_now : StoreValue → ℕ → Option StartFault
refusal_now v upto =
    if v.transactions.failed then Some fault.Failed
    else (if is_some v.job then Some fault.JobBusy
    else (if nat_le upto v.archived then Some fault.NothingToDo
    else (if nat_lt (last v) upto then Some (fault.NotYet (last v))
    else (if spare v.transactions == 0 then Some fault.StatusFull else None))))

-- what no run takes: what ended by the mark or by the floor of its relation
abbrev pub since_now : StoreValue → Since
since_now v = record { mark = v.archived; floors = floors v }

-- the records of the run: the versions that ended after the mark and the floor of their relation, and by the new mark
abbrev pub archive_of : StoreValue → ℕ → List ArchiveRecord
archive_of v upto = records_of (since_now v) upto v.transactions.versions

-- the run would end past the greatest place
abbrev pub IsPastEnd : StoreValue → ℕ → Type 0
IsPastEnd v upto = 2 ^ 63 ≤ v.runs_end + length (run_bytes (archive_of v upto))

-- the archive has begun: it has a slot lent and a place among the runs, and nothing of its run is written
abbrev pub with_archive : StoreValue → ℕ → RunEntry → StoreValue
with_archive v upto entry = record v {
  transactions = with_slot_lent v.transactions;
  job = Some (record { work = Archive (run_of upto v.runs_end (archive_of v upto)) (unwritten v.runs_end (archive_of v upto)); stage = Writing });
  archive = record v.archive { next = v.archive.runs ++ entry ∷ [] };
}

-- so it has, where queries will know the run by its slot and by the mark and the floors before that
pub record IsArchiveBegun (v : StoreValue) (upto : ℕ) (new : StoreValue) : Type 0 where
  pub entry : RunEntry
  pub slot : entry.slot ≡ run_of upto v.runs_end (archive_of v upto)
  pub mark : entry.mark ≡ v.archived
  pub floors_are : entry.floors ≡ floors v
  pub new_is : new ≡ with_archive v upto entry

-- why no archive begins once its run is counted: it would end past the greatest place, or for want of memory
abbrev pub IsRunRefusal : StoreValue → ℕ → StartFault → Type 0
IsRunRefusal v upto fault.ArchiveFull = IsPastEnd v upto
IsRunRefusal v upto fault.NoMemory = Unit {0}
IsRunRefusal v upto fault.Failed = ⊥
IsRunRefusal v upto fault.WrongProfile = ⊥
IsRunRefusal v upto fault.JobBusy = ⊥
IsRunRefusal v upto fault.NothingToDo = ⊥
IsRunRefusal v upto (fault.NotYet time) = ⊥
IsRunRefusal v upto (fault.InUse time) = ⊥
IsRunRefusal v upto fault.StatusFull = ⊥
IsRunRefusal v upto fault.HeapFull = ⊥
IsRunRefusal v upto fault.NotGrowable = ⊥

-- an archive begins with a run that ends before the greatest place, or is refused and nothing has changed
abbrev pub BeginsRun : StoreValue → ℕ → Result (Unit {0}) StartFault → StoreValue → Type 0
BeginsRun v upto (Ok done) new = (v.runs_end + length (run_bytes (archive_of v upto)) < 2 ^ 63)
    × (upto < 2 ^ 63 → IsRun (run_of upto v.runs_end (archive_of v upto))) × IsArchiveBegun v upto new
BeginsRun v upto (Err why) new = IsRunRefusal v upto why × (new ≡ v)

-- no device call is made
abbrev pub StartsArchive : StoreValue → ℕ → Result (Unit {0}) StartFault → StoreValue → Type 0
StartsArchive v upto result new = MatchOption (refusal_now v upto) (BeginsRun v upto result new) (λ why. (result ≡ Err why) × (new ≡ v))
