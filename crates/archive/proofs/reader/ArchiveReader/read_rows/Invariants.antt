use Rattle.std.proofs.Common.{ℕ, ◌≡◌, ◌+◌, ◌≤◌, List, IsTrue, length, drop, take}
use Rattle.std.specs.List.{flat_map}
use Rattle.law_image.specs.Reading.{ArchiveRecord}
use Rattle.archive.specs.Parts.{IsRight, Keeps}
use Rattle.archive.specs.Runs.{HoldRuns, RunsEndBy}
use Rattle.archive.specs.Readers.{kept_of}
use Rattle.archive.specs.Searches.{archive_of, heads_to_find}
use Rattle.archive.specs.Answers.{rows_in}
use Rattle.archive.specs.Traces.{IsOneKey, IsWalked}
use Rattle.archive.proofs.Trace.{IsThrough}
use Rattle.archive.proofs.reader.ArchiveReader.read_rows.Given as goal

abbrev pub invariant-loop-run : goal.invariant-loop-run
invariant-loop-run g l = record {
  rises : l.initial.self.heads ≤ l.self.heads;
  disk : g.D.Disk.state l.disk ≡ g.D.Disk.state l.initial.disk;
  kept : (limit : ℕ) → RunsEndBy limit l.runs
      → Keeps limit g.D.Disk.tells (archive_of (g.D.Disk.state l.initial.disk)) (kept_of l.initial.self) (kept_of l.self);
  heads : IsOneKey l.wanted
      → l.self.heads + heads_to_find l.wanted.a (drop l.run-index l.runs) ≤ l.initial.self.heads + heads_to_find l.wanted.a l.runs + length l.rows.items;
  shown : (lists : List (List ArchiveRecord)) → IsTrue g.D.Disk.tells → IsRight (kept_of l.initial.self) (archive_of (g.D.Disk.state l.initial.disk))
      → HoldRuns (archive_of (g.D.Disk.state l.initial.disk)) l.runs lists
      → l.rows.items ≡ flat_map (rows_in g.R.Row.shown l.wanted) (take l.run-index lists);
  through : IsTrue g.D.Disk.tells → IsRight (kept_of l.initial.self) (archive_of (g.D.Disk.state l.initial.disk))
      → IsThrough (IsWalked g.R.Row.shown (archive_of (g.D.Disk.state l.initial.disk)) l.wanted) l.wanted.a l.runs l.run-index l.rows.items;
}
