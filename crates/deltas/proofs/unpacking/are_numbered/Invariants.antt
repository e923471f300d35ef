use Rattle.std.proofs.Common.{◌↔◌, length, map}
use Rattle.std.specs.List.{AllByRecursion}
use Rattle.deltas.specs.Reading.{number_of}
use Rattle.deltas.specs.Chains.{IsNumber}
use Rattle.deltas.proofs.unpacking.are_numbered.Given as goal

abbrev pub invariant-loop-rest : goal.invariant-loop-rest
invariant-loop-rest l = AllByRecursion IsNumber (map number_of l.rest) ↔ AllByRecursion IsNumber (map number_of l.images)

abbrev pub decreases-loop-rest : goal.decreases-loop-rest
decreases-loop-rest l = length l.rest
