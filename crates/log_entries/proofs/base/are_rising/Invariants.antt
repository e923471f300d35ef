use Rattle.std.proofs.Common.{◌↔◌, length}
use Rattle.log_entries.specs.Ranges.{AreRising}
use Rattle.log_entries.proofs.Bases.{RisesAfter}
use Rattle.log_entries.proofs.base.are_rising.Given as goal

abbrev pub invariant-loop-rest : goal.invariant-loop-rest
invariant-loop-rest l = RisesAfter l.before l.rest ↔ AreRising l.floors

abbrev pub decreases-loop-rest : goal.decreases-loop-rest
decreases-loop-rest l = length l.rest
