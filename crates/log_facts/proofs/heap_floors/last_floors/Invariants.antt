use Rattle.std.proofs.Common.{◌≡◌, ◌++◌, length}
use Rattle.log_facts.specs.HeapFacts as told
use Rattle.log_facts.proofs.heap_floors.last_floors.Given as goal

-- those of all are those that were found and then those of what is left
abbrev pub invariant-loop-rest : goal.invariant-loop-rest
invariant-loop-rest l = told.last_floors l.initial.rest ≡ l.floors.items ++ told.last_floors l.rest

abbrev pub decreases-loop-rest : goal.decreases-loop-rest
decreases-loop-rest l = length l.rest
