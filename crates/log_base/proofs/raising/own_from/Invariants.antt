use Rattle.std.proofs.Common.{◌≡◌, [], length}
use Rattle.floors.specs.Floors.{AreRising}
use Rattle.log_base.specs.Bases.{own_from}
use Rattle.log_base.proofs.raising.own_from.Given as goal

abbrev pub invariant-loop-rest : goal.invariant-loop-rest
invariant-loop-rest l = record {
  rising : AreRising l.own.items;
  raised : own_from l.own.items l.rest ≡ own_from [] l.chains;
}

abbrev pub decreases-loop-rest : goal.decreases-loop-rest
decreases-loop-rest l = length l.rest
