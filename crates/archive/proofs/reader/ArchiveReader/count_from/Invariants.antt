use Rattle.std.proofs.Common.{◌≡◌, ◌-◌, ◌<◌, ◌≤◌, List, None, IsTrue}
use Rattle.law_image.specs.Reading.{ArchiveRecord}
use Rattle.archive.specs.Parts.{IsRight, Keeps}
use Rattle.archive.specs.Runs.{run_end}
use Rattle.archive.specs.Readers.{kept_of}
use Rattle.archive.specs.Searches.{archive_of, Reads, IsBetween, IsPlaced, IsSeen}
use Rattle.archive.specs.Damages.{placed_at, IsHeadSound}
use Rattle.archive.proofs.Damage.{IsHalfwayFrom}
use Rattle.archive.proofs.reader.ArchiveReader.count_from.Given as goal

abbrev pub invariant-loop-low : goal.invariant-loop-low
invariant-loop-low g l = record {
  rises : l.initial.self.heads ≤ l.self.heads;
  order : l.low ≤ l.high;
  behind : l.from.number < l.low;
  within : l.high ≤ l.run.slot.records;
  disk : g.D.Disk.state l.disk ≡ g.D.Disk.state l.initial.disk;
  kept : Keeps (run_end l.run) g.D.Disk.tells (archive_of (g.D.Disk.state l.initial.disk)) (kept_of l.initial.self) (kept_of l.self);
  between : (records : List ArchiveRecord) (r : ArchiveRecord) → Reads g.D.Disk.tells (kept_of l.initial.self) (g.D.Disk.state l.initial.disk) l.run records
      → IsPlaced records r l.from
      → IsBetween records l.key l.time l.low l.high;
  seen : (records : List ArchiveRecord) (r : ArchiveRecord) → Reads g.D.Disk.tells (kept_of l.initial.self) (g.D.Disk.state l.initial.disk) l.run records
      → IsPlaced records r l.from
      → IsSeen records l.last;
  half : IsTrue g.D.Disk.tells → IsRight (kept_of l.initial.self) (archive_of (g.D.Disk.state l.initial.disk))
      → l.from ≡ placed_at (archive_of (g.D.Disk.state l.initial.disk)) l.run l.from.number
      → IsHeadSound (archive_of (g.D.Disk.state l.initial.disk)) l.run None l.from.number
      → IsHalfwayFrom (archive_of (g.D.Disk.state l.initial.disk)) l.run l.key l.time l.from.number l.last l.low l.high;
}

abbrev pub decreases-loop-low : goal.decreases-loop-low
decreases-loop-low g l = l.high - l.low
