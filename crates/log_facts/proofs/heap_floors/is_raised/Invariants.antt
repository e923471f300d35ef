use Rattle.std.proofs.Common.{◌≡◌, length}
use Rattle.log_facts.specs.HeapFacts as told
use Rattle.log_facts.proofs.heap_floors.is_raised.Given as goal

abbrev pub invariant-loop-rest : goal.invariant-loop-rest
invariant-loop-rest l = told.is_raised l.relation l.initial.rest ≡ told.is_raised l.relation l.rest

abbrev pub decreases-loop-rest : goal.decreases-loop-rest
decreases-loop-rest l = length l.rest
