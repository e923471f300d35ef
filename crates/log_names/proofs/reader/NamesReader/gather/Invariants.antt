use Rattle.std.proofs.Common.{ℕ, ◌≡◌, ◌+◌, ◌<◌, ◌≤◌, ◌++◌, List, IsTrue, length, map}
use Rattle.std.specs.Prelude.{Some, Contains}
use Rattle.std.specs.List.{AllByRecursion}
use Rattle.archive.specs.Parts.{IsRight, Keeps}
use Rattle.archive.specs.Searches.{archive_of}
use Rattle.log_entries.specs.declared.entry.Roll.{Roll}
use Rattle.log_entries.specs.Ranges.{IsRoll}
use Rattle.log_names.specs.Standing.{times_in_all}
use Rattle.log_names.specs.Rolls.{RollsEndBy, names_to_read}
use Rattle.log_names.proofs.reader.NamesReader.gather.Given as goal

abbrev pub invariant-loop-rest : goal.invariant-loop-rest
invariant-loop-rest g l = record {
  each : AllByRecursion IsRoll l.rest;
  rises : l.initial.self.names ≤ l.self.names;
  names : l.self.names + names_to_read l.rest ≤ l.initial.self.names + names_to_read l.rolls + length l.times.items;
  within : AllByRecursion (λ (time : ℕ). (0 < time) × (time ≤ l.upto)) l.times.items;
  disk : g.D.Disk.state l.disk ≡ g.D.Disk.state l.initial.disk;
  kept : (limit : ℕ) → RollsEndBy limit l.rolls
      → Keeps limit g.D.Disk.tells (archive_of (g.D.Disk.state l.initial.disk)) (g.P.ReadsParts.kept l.initial.parts) (g.P.ReadsParts.kept l.parts);
  ends : (limit : ℕ) → RollsEndBy limit l.rolls → RollsEndBy limit l.rest;
  starts : (start : ℕ) → Contains (map (λ (roll : Roll). roll.start) l.rest) start → Contains (map (λ (roll : Roll). roll.start) l.rolls) start;
  found : IsTrue g.D.Disk.tells → IsRight (g.P.ReadsParts.kept l.initial.parts) (archive_of (g.D.Disk.state l.initial.disk))
      → (done : List Roll) × (l.rolls ≡ done ++ l.rest) × (times_in_all (archive_of (g.D.Disk.state l.initial.disk)) l.upto l.label done ≡ Some l.times.items);
}

abbrev pub decreases-loop-rest : goal.decreases-loop-rest
decreases-loop-rest g l = length l.rest
