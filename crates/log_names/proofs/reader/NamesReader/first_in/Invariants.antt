use Rattle.std.proofs.Common.{◌≡◌, ◌+◌, ◌-◌, ◌≤◌, IsTrue}
use Rattle.archive.specs.Digits.{digits}
use Rattle.archive.specs.Parts.{IsRight, Keeps}
use Rattle.archive.specs.Searches.{archive_of}
use Rattle.log_names.specs.Standing.{name_count}
use Rattle.log_names.proofs.Halving.{IsHalfway}
use Rattle.log_names.proofs.reader.NamesReader.first_in.Given as goal

abbrev pub invariant-loop-low : goal.invariant-loop-low
invariant-loop-low g l = record {
  rises : l.initial.self.names ≤ l.self.names;
  order : l.low ≤ l.high;
  within : l.high ≤ name_count l.roll;
  names : l.self.names + digits (l.high - l.low) ≤ l.initial.self.names + digits (name_count l.roll);
  disk : g.D.Disk.state l.disk ≡ g.D.Disk.state l.initial.disk;
  kept : Keeps (l.roll.start + l.roll.len) g.D.Disk.tells (archive_of (g.D.Disk.state l.initial.disk)) (g.P.ReadsParts.kept l.initial.parts)
      (g.P.ReadsParts.kept l.parts);
  half : IsTrue g.D.Disk.tells → IsRight (g.P.ReadsParts.kept l.initial.parts) (archive_of (g.D.Disk.state l.initial.disk))
      → IsHalfway (archive_of (g.D.Disk.state l.initial.disk)) l.upto l.label l.roll l.low l.high;
}

abbrev pub decreases-loop-low : goal.decreases-loop-low
decreases-loop-low g l = l.high - l.low
