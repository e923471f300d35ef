use Rattle.std.proofs.Common.{◌≡◌, ◌++◌, length, map}
use Rattle.log_entries.specs.Ranges.{run_of}
use Rattle.log_recovery.proofs.rules.push_runs.Given as goal

abbrev pub invariant-loop-rest : goal.invariant-loop-rest
invariant-loop-rest l = l.runs.items ++ map run_of l.rest ≡ l.fn.runs.items ++ map run_of l.archives

abbrev pub decreases-loop-rest : goal.decreases-loop-rest
decreases-loop-rest l = length l.rest
