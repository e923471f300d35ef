use Rattle.std.proofs.Common.{◌≡◌, ◌++◌, length}
use Rattle.snapshot.proofs.scan.push_all.Given as goal

abbrev pub invariant-loop-rest : goal.invariant-loop-rest
invariant-loop-rest l = l.found.items ++ l.rest ≡ l.fn.found.items ++ l.pairs

abbrev pub decreases-loop-rest : goal.decreases-loop-rest
decreases-loop-rest l = length l.rest
