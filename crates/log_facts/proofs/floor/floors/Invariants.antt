use Rattle.std.proofs.Common.{◌≡◌, ◌++◌, length}
use Rattle.log_facts.specs.Facts as told
use Rattle.log_facts.proofs.floor.floors.Given as goal

-- the floors of all are those that were found and then those of what is left
abbrev pub invariant-loop-rest : goal.invariant-loop-rest
invariant-loop-rest l = told.floors l.initial.rest ≡ l.floors.items ++ told.floors l.rest

abbrev pub decreases-loop-rest : goal.decreases-loop-rest
decreases-loop-rest l = length l.rest
