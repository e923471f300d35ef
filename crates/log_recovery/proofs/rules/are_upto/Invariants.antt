use Rattle.std.proofs.Common.{◌↔◌, length}
use Rattle.log_recovery.specs.Following.{AreUpTo}
use Rattle.log_recovery.proofs.rules.are_upto.Given as goal

abbrev pub invariant-loop-rest : goal.invariant-loop-rest
invariant-loop-rest l = AreUpTo l.time l.rest ↔ AreUpTo l.time l.floors

abbrev pub decreases-loop-rest : goal.decreases-loop-rest
decreases-loop-rest l = length l.rest
