use Rattle.std.proofs.Common.{◌≡◌, ℕ, length, map}
use Rattle.std.specs.List.{AllByRecursion}
use Rattle.law_log_layout.specs.HeapLog.{run_span}
use Rattle.log_recovery.specs.Rules.{roll_part}
use Rattle.log_recovery.specs.Ends.{EndsEarly}
use Rattle.log_recovery.proofs.Past.{IsLeftOf}
use Rattle.log_recovery.proofs.archive_parts.first_roll_past.Given as goal

abbrev pub invariant-loop-roll : goal.invariant-loop-roll
invariant-loop-roll l = AllByRecursion EndsEarly (map roll_part l.rest) × IsLeftOf l.fn.archive_len (map roll_part l.fn.rolls) (map roll_part l.rest)

abbrev pub decreases-loop-roll : goal.decreases-loop-roll
decreases-loop-roll l = length l.rest
