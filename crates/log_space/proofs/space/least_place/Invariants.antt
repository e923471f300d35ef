use Rattle.log_space.specs.Uses.{AreUsed}
use Rattle.log_space.proofs.space.least_place.Given as goal

abbrev pub invariant-loop-place : goal.invariant-loop-place
invariant-loop-place l = AreUsed l.used l.place
