use Rattle.std.proofs.Common.{◌≡◌, ◌↔◌, length, map}
use Rattle.std.specs.List.{AllByRecursion}
use Rattle.law_log_layout.specs.HeapLog.{AreSpansInRow}
use Rattle.log_entries.specs.Ranges.{IsRoll}
use Rattle.log_recovery.specs.Rules.{roll_part, row_end}
use Rattle.log_recovery.proofs.rules.end_of_rolls.Given as goal

abbrev pub invariant-loop-rest : goal.invariant-loop-rest
invariant-loop-rest l = record {
  each : AllByRecursion IsRoll l.rest;
  in_row : AreSpansInRow l.end (map roll_part l.rest) ↔ AreSpansInRow l.place (map roll_part l.rolls);
  ends : row_end l.end (map roll_part l.rest) ≡ row_end l.place (map roll_part l.rolls);
}

abbrev pub decreases-loop-rest : goal.decreases-loop-rest
decreases-loop-rest l = length l.rest
