use Rattle.std.proofs.Common.{◌≡◌, ◌++◌, length}
use Rattle.law_layout.specs.Layouts.{entries_of}
use Rattle.recovery.proofs.opening.entries.Given as goal

abbrev pub invariant-loop-rest : goal.invariant-loop-rest
invariant-loop-rest l = l.entries.items ++ entries_of l.rest ≡ entries_of l.fn.slots

abbrev pub decreases-loop-rest : goal.decreases-loop-rest
decreases-loop-rest l = length l.rest
