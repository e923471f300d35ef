use Rattle.std.proofs.Common.{◌≡◌, length}
use Rattle.log_facts.specs.Facts as told
use Rattle.log_facts.proofs.facts.first_time.Given as goal

abbrev pub invariant-loop-rest : goal.invariant-loop-rest
invariant-loop-rest l = told.first_time l.initial.rest ≡ told.first_time l.rest

abbrev pub decreases-loop-rest : goal.decreases-loop-rest
decreases-loop-rest l = length l.rest
