use Rattle.std.proofs.Common.{◌≡◌, fold, length}
use Rattle.log_facts.specs.HeapFacts as told
use Rattle.log_facts.proofs.heap_facts.reclaimed.Given as goal

-- what is counted of all is what is counted of what is left, beginning with what was counted
abbrev pub invariant-loop-rest : goal.invariant-loop-rest
invariant-loop-rest l = fold told.reclaimed_by 0 l.initial.rest ≡ fold told.reclaimed_by l.mark l.rest

abbrev pub decreases-loop-rest : goal.decreases-loop-rest
decreases-loop-rest l = length l.rest
