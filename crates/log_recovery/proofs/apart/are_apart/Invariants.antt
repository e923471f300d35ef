use Rattle.std.proofs.Common.{◌≡◌, ◌+◌, length, map}
use Rattle.law_log_layout.specs.HeapLog.{run_span}
use Rattle.log_recovery.specs.Rules.{roll_part}
use Rattle.log_recovery.proofs.Spans.{AreLeft}
use Rattle.log_recovery.proofs.apart.are_apart.Given as goal

abbrev pub invariant-loop-run : goal.invariant-loop-run
invariant-loop-run l = AreLeft (map run_span l.fn.runs) (map roll_part l.fn.rolls) (map run_span l.runs_left) (map roll_part l.rolls_left)

abbrev pub decreases-loop-run : goal.decreases-loop-run
decreases-loop-run l = length l.runs_left + length l.rolls_left
