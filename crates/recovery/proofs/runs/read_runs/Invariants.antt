use Rattle.std.proofs.Common.{length}
use Rattle.recovery.proofs.RunEntries.{IsReadBefore}
use Rattle.recovery.proofs.runs.read_runs.Given as goal

abbrev pub invariant-loop-rest : goal.invariant-loop-rest
invariant-loop-rest l = IsReadBefore l.fn.slots l.rest l.runs.items l.archived l.floors

abbrev pub decreases-loop-rest : goal.decreases-loop-rest
decreases-loop-rest l = length l.rest
