use Rattle.std.proofs.Common.{◌↔◌, length, map}
use Rattle.std.specs.List.Sorted.{IsStrictlySortedBy}
use Rattle.history.specs.Key.{key_cmp}
use Rattle.deltas.proofs.Rising.{RisesAfter}
use Rattle.deltas.proofs.unpacking.are_rising.Given as goal

abbrev pub invariant-loop-rest : goal.invariant-loop-rest
invariant-loop-rest l = RisesAfter l.before l.rest ↔ IsStrictlySortedBy key_cmp (map (λ r. r.key) l.records)

abbrev pub decreases-loop-rest : goal.decreases-loop-rest
decreases-loop-rest l = length l.rest
