use Rattle.std.proofs.Common.{◌≡◌, ◌↔◌, length}
use Rattle.std.specs.List.{AllByRecursion}
use Rattle.law_log_layout.specs.HeapLog.{AreSpansInRow}
use Rattle.log_entries.specs.Ranges.{IsArchive}
use Rattle.log_recovery.specs.Rules.{row_end}
use Rattle.log_recovery.specs.Following.{spans_in}
use Rattle.log_recovery.proofs.rules.end_of_runs.Given as goal

abbrev pub invariant-loop-rest : goal.invariant-loop-rest
invariant-loop-rest l = record {
  each : AllByRecursion IsArchive l.rest;
  in_row : AreSpansInRow l.end (spans_in l.rest) ↔ AreSpansInRow l.place (spans_in l.archives);
  ends : row_end l.end (spans_in l.rest) ≡ row_end l.place (spans_in l.archives);
}

abbrev pub decreases-loop-rest : goal.decreases-loop-rest
decreases-loop-rest l = length l.rest
