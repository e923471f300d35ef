use Rattle.std.proofs.Common.{◌≡◌, ℕ, length, map}
use Rattle.std.specs.List.{AllByRecursion}
use Rattle.law_log_layout.specs.HeapLog.{run_span}
use Rattle.log_recovery.specs.Rules.{roll_part}
use Rattle.log_recovery.specs.Ends.{EndsEarly}
use Rattle.log_recovery.proofs.Past.{IsLeftOf}
use Rattle.log_recovery.proofs.archive_parts.first_run_past.Given as goal

abbrev pub invariant-loop-run : goal.invariant-loop-run
invariant-loop-run l = AllByRecursion EndsEarly (map run_span l.rest) × IsLeftOf l.fn.archive_len (map run_span l.fn.runs) (map run_span l.rest)

abbrev pub decreases-loop-run : goal.decreases-loop-run
decreases-loop-run l = length l.rest
