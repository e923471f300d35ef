use Rattle.std.proofs.Common.{◌≡◌, ◌++◌, length, List}
use Rattle.std.specs.List.{flat_map, AllByRecursion}
use Rattle.deltas.specs.declared.«record».Record.{Record}
use Rattle.deltas.specs.Records.{IsRecord, spelling}
use Rattle.deltas.proofs.Left.{IsLeft}
use Rattle.deltas.proofs.unpacking.read_body.Given as goal

abbrev pub invariant-loop-rest : goal.invariant-loop-rest
invariant-loop-rest l = (records : List Record) → AllByRecursion IsRecord records → l.body ≡ flat_map spelling records
    → (left : List Record) × IsLeft l.found.items l.rest (l.initial.found.items ++ records) left

abbrev pub decreases-loop-rest : goal.decreases-loop-rest
decreases-loop-rest l = length l.rest
