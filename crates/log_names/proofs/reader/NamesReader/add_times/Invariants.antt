use Rattle.std.proofs.Common.{ℕ, ◌≡◌, ◌+◌, ◌-◌, ◌<◌, ◌≤◌, ◌++◌, List, IsTrue, length}
use Rattle.std.specs.List.{AllByRecursion}
use Rattle.archive.specs.Parts.{IsRight, Keeps}
use Rattle.archive.specs.Searches.{archive_of}
use Rattle.log_names.specs.Standing.{name_count}
use Rattle.log_names.proofs.Walking.{IsWalking}
use Rattle.log_names.proofs.reader.NamesReader.add_times.Given as goal

abbrev pub invariant-loop-n : goal.invariant-loop-n
invariant-loop-n g l = record {
  rises : l.initial.self.names ≤ l.self.names;
  within : l.n ≤ name_count l.roll;
  front : (times : List ℕ) × (l.into.items ≡ l.initial.into.items ++ times) × (l.self.names ≤ l.initial.self.names + length times)
      × AllByRecursion (λ (time : ℕ). (0 < time) × (time ≤ l.upto)) times;
  disk : g.D.Disk.state l.disk ≡ g.D.Disk.state l.initial.disk;
  kept : Keeps (l.roll.start + l.roll.len) g.D.Disk.tells (archive_of (g.D.Disk.state l.initial.disk)) (g.P.ReadsParts.kept l.initial.parts)
      (g.P.ReadsParts.kept l.parts);
  walking : IsTrue g.D.Disk.tells → IsRight (g.P.ReadsParts.kept l.initial.parts) (archive_of (g.D.Disk.state l.initial.disk))
      → IsWalking (archive_of (g.D.Disk.state l.initial.disk)) l.upto l.label l.roll l.first l.n l.last l.initial.into.items l.into.items;
}

abbrev pub decreases-loop-n : goal.decreases-loop-n
decreases-loop-n g l = name_count l.roll - l.n
