-- The beginning of an archive.
use Rattle.std.specs.Prelude.{ℕ, ◌≡◌, ◌+◌, ◌^◌, ◌<◌, ◌≤◌, ◌&&◌, nat_le, nat_lt, Bool, List, [], ◌∷◌, ◌++◌, length}
use Rattle.std.specs.Prelude.{Option, Some, None, Result, Ok, Err, MatchOption, if◌then◌else◌}
use Rattle.law_image.specs.Reading.{ArchiveRecord}
use Rattle.wire.specs.Spelling.{IsRun}
use Rattle.wire.specs.declared.slot.Run.{Run}
use Rattle.floors.specs.Floors.{no_floors}
use Rattle.archive.specs.Pieces.{InWriting}
use Rattle.archive.specs.Runs.{run_bytes}
use Rattle.archive.specs.declared.run.RunEntry.{RunEntry}
use Rattle.vacuum.specs.Archives.{records_of, run_of, unwritten}
use Rattle.vacuum.specs.declared.archive_walk.Since.{Since}
use Rattle.log_entries.specs.declared.entry.Archive.{Archive}
use Rattle.log_room.specs.Rooms.{promised_entry, has_entry_room, has_last_room}
use Rattle.log_room.specs.Bases.{has_base_room}
use Rattle.commits.specs.Values.{last, last_assigned}
use Rattle.log_store.specs.Values.{LogStoreValue, is_busy}
use Rattle.log_store.specs.Jobs.{base_parts}
use Rattle.log_store.specs.declared.job.JobStage.TheVariants.{Writing}
use Rattle.log_store.specs.declared.job.JobWork.TheVariants as works
use Rattle.log_store.specs.declared.job.StartFault.{StartFault}
use Rattle.log_store.specs.declared.job.StartFault.TheVariants as fault

-- ---- the beginning

-- the entry has an extent, and a base that names the run too keeps its share: one up to the last time that a commit has may take the last extent of the log's
-- half, since a reclaim behind it gives back all
abbrev pub has_archive_room : LogStoreValue → ℕ → Bool
has_archive_room v upto =
    (if nat_lt upto (last_assigned v.commits) then has_entry_room v.room else has_last_room v.room) && has_base_room v.room (base_parts v)

-- why no archive up to a time begins, by what is known before its run is counted: the first reason in this order
abbrev pub archive_refusal : LogStoreValue → ℕ → Option StartFault
archive_refusal v upto =
    if v.commits.failed then Some fault.Failed
    else (if is_busy v then Some fault.JobBusy
    else (if nat_le upto v.named.upto then Some fault.NothingToDo
    else (if nat_lt (last v.commits) upto then Some (fault.NotYet (last v.commits))
    else (if has_archive_room v upto then None else Some fault.HeapFull))))

-- what no run takes: what ended by the mark or by the floor of its relation
abbrev pub since_now : LogStoreValue → Since
since_now v = record { mark = v.named.upto; floors = v.commits.floors }

-- the records of the run: the versions that ended after the mark and the floor of their relation, and by the new mark
abbrev pub records_to : LogStoreValue → ℕ → List ArchiveRecord
records_to v upto = records_of (since_now v) upto v.commits.versions

-- the run of these
abbrev pub run_to : LogStoreValue → ℕ → Run
run_to v upto = run_of upto v.named.end (records_to v upto)

-- the run would end past the greatest place
abbrev pub IsPastEnd : LogStoreValue → ℕ → Type 0
IsPastEnd v upto = 2 ^ 63 ≤ v.named.end + length (run_bytes (records_to v upto))

-- the run as an entry names it that takes the place of no other
abbrev pub archive_as : Run → Archive
archive_as run = record { upto = run.upto; start = run.start; len = run.len; «records» = run.records; runs = 0 }

-- the archive has begun: it is promised an extent and has a place among the runs, and nothing of its run is written
abbrev pub with_archive : LogStoreValue → Run → InWriting → RunEntry → LogStoreValue
with_archive v run writer entry = record v {
  room = promised_entry v.room;
  job = Some (record { work = works.Archive (archive_as run) (v.named.archives ++ archive_as run ∷ []); stage = Writing writer });
  archive = record v.archive { next = v.archive.runs ++ entry ∷ [] };
}

-- so it has, where queries will know the run by the mark before it
pub record BeginsArchive (v : LogStoreValue) (run : Run) (writer : InWriting) (new : LogStoreValue) : Type 0 where
  pub entry : RunEntry
  pub slot : entry.slot ≡ run
  pub mark : entry.mark ≡ v.named.upto
  pub floors : entry.floors ≡ no_floors
  pub new_is : new ≡ with_archive v run writer entry

-- why no archive begins once its run is counted: it would end past the greatest place, or for want of memory
abbrev pub IsRunRefusal : LogStoreValue → ℕ → StartFault → Type 0
IsRunRefusal v upto fault.ArchiveFull = IsPastEnd v upto
IsRunRefusal v upto fault.NoMemory = Unit {0}
IsRunRefusal v upto fault.Failed = ⊥
IsRunRefusal v upto fault.WrongProfile = ⊥
IsRunRefusal v upto fault.JobBusy = ⊥
IsRunRefusal v upto fault.NothingToDo = ⊥
IsRunRefusal v upto (fault.NotYet time) = ⊥
IsRunRefusal v upto (fault.InUse time) = ⊥
IsRunRefusal v upto fault.HeapFull = ⊥

-- an archive begins with a run that ends before the greatest place, or is refused and nothing has changed
abbrev pub BeginsRun : LogStoreValue → ℕ → Result (Unit {0}) StartFault → LogStoreValue → Type 0
BeginsRun v upto (Ok done) new = (upto < 2 ^ 63) × (v.named.end + length (run_bytes (records_to v upto)) < 2 ^ 63) × IsRun (run_to v upto)
    × BeginsArchive v (run_to v upto) (unwritten v.named.end (records_to v upto)) new
BeginsRun v upto (Err why) new = IsRunRefusal v upto why × (new ≡ v)

-- no device call is made
abbrev pub StartsArchive : LogStoreValue → ℕ → Result (Unit {0}) StartFault → LogStoreValue → Type 0
StartsArchive v upto result new = MatchOption (archive_refusal v upto) (BeginsRun v upto result new) (λ why. (result ≡ Err why) × (new ≡ v))
