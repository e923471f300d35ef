use Rattle.std.proofs.Common.{◌≡◌, length}
use Rattle.floors.specs.Floors.{AreRising}
use Rattle.log_base.specs.Bases.{raised_by}
use Rattle.log_base.proofs.raising.raise_all.Given as goal

abbrev pub invariant-loop-rest : goal.invariant-loop-rest
invariant-loop-rest l = record {
  rising : AreRising l.own.items;
  raised : raised_by l.own.items l.rest ≡ raised_by l.fn.own.items l.more;
}

abbrev pub decreases-loop-rest : goal.decreases-loop-rest
decreases-loop-rest l = length l.rest
