use Rattle.std.proofs.Common.{ℕ, length}
use Rattle.std.specs.List.{AllByRecursion}
use Rattle.law_layout.specs.Opening.{EndsWithin, FailsRuns}
use Rattle.recovery.specs.RunEntries.{runs_named}
use Rattle.recovery.proofs.opening.first_past.Given as goal

abbrev pub invariant-loop-rest : goal.invariant-loop-rest
invariant-loop-rest l = record {
  fails : (place : ℕ) → FailsRuns l.archive_len (runs_named l.rest) place → FailsRuns l.archive_len (runs_named l.fn.runs) place;
  within : AllByRecursion (EndsWithin l.archive_len) (runs_named l.rest) → AllByRecursion (EndsWithin l.archive_len) (runs_named l.fn.runs);
}

abbrev pub decreases-loop-rest : goal.decreases-loop-rest
decreases-loop-rest l = length l.rest
