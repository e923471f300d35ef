use Rattle.std.proofs.Common.{◌≡◌, ◌++◌, length}
use Rattle.log_facts.specs.HeapFacts as told
use Rattle.log_facts.proofs.heap_floors.raised.Given as goal

-- those of all are those that were found and then those of what is left
abbrev pub invariant-loop-rest : goal.invariant-loop-rest
invariant-loop-rest l = told.raised l.initial.rest ≡ l.floors.items ++ told.raised l.rest

abbrev pub decreases-loop-rest : goal.decreases-loop-rest
decreases-loop-rest l = length l.rest
