use Rattle.std.proofs.Common.{◌≡◌, ◌++◌, length}
use Rattle.snapshot.specs.Scans.{lesser, from_record}
use Rattle.snapshot.proofs.scan.push_lesser.Given as goal

abbrev pub invariant-loop-rest : goal.invariant-loop-rest
invariant-loop-rest l = record {
  so_far : l.found.items ++ lesser l.«record» l.rest ≡ l.fn.found.items ++ lesser l.«record» l.pairs;
  left : from_record l.«record» l.rest ≡ from_record l.«record» l.pairs;
}

abbrev pub decreases-loop-rest : goal.decreases-loop-rest
decreases-loop-rest l = length l.rest
