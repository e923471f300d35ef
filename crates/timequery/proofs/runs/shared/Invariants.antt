use Rattle.std.proofs.Common.{◌≡◌, ◌++◌, length}
use Rattle.timequery.proofs.runs.shared.Given as goal

abbrev pub invariant-loop-rest : goal.invariant-loop-rest
invariant-loop-rest l = l.again.items ++ l.rest ≡ l.fn.runs

abbrev pub decreases-loop-rest : goal.decreases-loop-rest
decreases-loop-rest l = length l.rest
