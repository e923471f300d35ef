-- An archive begins.
use Rattle.std.proofs.Common.{◌≡◌, List, [], ◌∷◌, ◌++◌, Some}
use Rattle.wire.specs.declared.slot.Run.{Run}
use Rattle.floors.specs.Floors.{no_floors}
use Rattle.archive.specs.Pieces.{InWriting}
use Rattle.archive.specs.declared.run.RunEntry.{RunEntry}
use Rattle.timequery.specs.Archives.{ArchiveValue}
use Rattle.log_entries.specs.declared.entry.Archive.{Archive}
use Rattle.log_room.specs.Rooms.{RoomValue, promised_entry}
use Rattle.log_store.specs.Values.{LogStoreValue}
use Rattle.log_store.specs.Archives.{archive_as, BeginsArchive}
use Rattle.log_store.specs.declared.job.JobStage.TheVariants.{Writing}
use Rattle.log_store.specs.declared.job.JobWork.TheVariants as works

-- the store with its job, its room and its place among the runs
abbrev begun : LogStoreValue → RoomValue → ArchiveValue → Archive → List Archive → InWriting → LogStoreValue
begun v room archive made archives writer =
    record v { room = room; job = Some (record { work = works.Archive made archives; stage = Writing writer }); archive = archive }

-- it has begun
pub archive-begins : (old : LogStoreValue) (run : Run) (writer : InWriting) (entry : RunEntry) (room : RoomValue) (archive : ArchiveValue)
    (archives : List Archive)
    → entry.slot ≡ run → entry.mark ≡ old.named.upto → entry.floors ≡ no_floors → room ≡ promised_entry old.room
    → archives ≡ old.named.archives ++ archive_as run ∷ [] → archive ≡ record old.archive { next = old.archive.runs ++ entry ∷ [] }
    → BeginsArchive old run writer (begun old room archive (archive_as run) archives writer)
archive-begins old run writer entry room archive archives slot mark unfloored room-is archives-are archive-is = record {
  entry = entry;
  slot = slot;
  mark = mark;
  floors = unfloored;
  new_is = λ i. begun old (room-is i) (archive-is i) (archive_as run) (archives-are i) writer;
}
