use Rattle.std.proofs.Common.{◌↔◌, length}
use Rattle.deltas.specs.Unpacking.{ArePacked}
use Rattle.deltas.proofs.unpacking.are_packed.Given as goal

abbrev pub invariant-loop-rest : goal.invariant-loop-rest
invariant-loop-rest l = ArePacked l.rest l.left.left.now ↔ ArePacked l.images l.records

abbrev pub decreases-loop-rest : goal.decreases-loop-rest
decreases-loop-rest l = length l.rest
