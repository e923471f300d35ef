use Rattle.std.proofs.Common.{◌↔◌, length}
use Rattle.std.specs.List.{AllByRecursion}
use Rattle.deltas.specs.Records.{IsRecord}
use Rattle.deltas.specs.Chains.{IsPermitted}
use Rattle.deltas.proofs.unpacking.are_each.Given as goal

abbrev pub invariant-loop-rest : goal.invariant-loop-rest
invariant-loop-rest l =
    (AllByRecursion IsRecord l.rest × AllByRecursion (λ r. IsPermitted l.kinds r.content) l.rest)
    ↔ (AllByRecursion IsRecord l.records × AllByRecursion (λ r. IsPermitted l.kinds r.content) l.records)

abbrev pub decreases-loop-rest : goal.decreases-loop-rest
decreases-loop-rest l = length l.rest
