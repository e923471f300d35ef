use Rattle.std.proofs.Common.{ℕ, ◌≡◌, ◌+◌, ◌-◌, ◌≤◌, ◌++◌, List, Some, false, IsTrue, length, take}
use Rattle.std.specs.List.{flat_map, slice_get}
use Rattle.law_image.specs.Reading.{ArchiveRecord}
use Rattle.archive.specs.Answers.{head_of, precedes, row_of}
use Rattle.archive.specs.Digits.{digits}
use Rattle.archive.specs.Parts.{IsRight, Keeps}
use Rattle.archive.specs.Runs.{run_end}
use Rattle.archive.specs.Readers.{kept_of}
use Rattle.archive.specs.Searches.{archive_of, Reads, IsSeen}
use Rattle.archive.specs.Traces.{IsOneKey}
use Rattle.archive.proofs.Trace.{IsWalking}
use Rattle.archive.proofs.reader.ArchiveReader.add_rows.Given as goal

abbrev pub invariant-loop-number : goal.invariant-loop-number
invariant-loop-number g l = record {
  rises : l.fn.self.heads ≤ l.self.heads;
  within : l.number ≤ l.run.slot.records;
  heads : IsOneKey l.wanted → l.self.heads + length l.fn.rows.items ≤ l.fn.self.heads + digits l.run.slot.records + length l.rows.items;
  disk : g.D.Disk.state l.disk ≡ g.D.Disk.state l.fn.disk;
  kept : Keeps (run_end l.run) g.D.Disk.tells (archive_of (g.D.Disk.state l.fn.disk)) (kept_of l.fn.self) (kept_of l.self);
  after : (records : List ArchiveRecord) → Reads g.D.Disk.tells (kept_of l.fn.self) (g.D.Disk.state l.fn.disk) l.run records
      → (i : ℕ) (r : ArchiveRecord) → l.number ≤ i → slice_get records i ≡ Some r → precedes l.wanted.first l.wanted.a (head_of r) ≡ false;
  seen : (records : List ArchiveRecord) → Reads g.D.Disk.tells (kept_of l.fn.self) (g.D.Disk.state l.fn.disk) l.run records → IsSeen records l.last;
  shown : (records : List ArchiveRecord) → Reads g.D.Disk.tells (kept_of l.fn.self) (g.D.Disk.state l.fn.disk) l.run records
      → l.rows.items ≡ l.fn.rows.items ++ flat_map (row_of g.R.Row.shown l.wanted) (take l.number records);
  walking : IsTrue g.D.Disk.tells → IsRight (kept_of l.fn.self) (archive_of (g.D.Disk.state l.fn.disk))
      → IsWalking g.R.Row.shown (archive_of (g.D.Disk.state l.fn.disk)) l.wanted l.run l.fn.rows.items l.last l.number l.rows.items;
}

abbrev pub decreases-loop-number : goal.decreases-loop-number
decreases-loop-number g l = l.run.slot.records - l.number
