use Rattle.std.proofs.Common.{◌↔◌, length}
use Rattle.std.specs.List.{AllByRecursion}
use Rattle.log_entries.specs.Ranges.{HasNoRuns}
use Rattle.log_entries.proofs.base.have_no_runs.Given as goal

abbrev pub invariant-loop-rest : goal.invariant-loop-rest
invariant-loop-rest l = AllByRecursion HasNoRuns l.rest ↔ AllByRecursion HasNoRuns l.archives

abbrev pub decreases-loop-rest : goal.decreases-loop-rest
decreases-loop-rest l = length l.rest
