use Rattle.std.proofs.Common.{◌≡◌, length}
use Rattle.store.specs.Opens.{with_live, times_of}
use Rattle.store.proofs.opening.times_of.Given as goal

abbrev pub invariant-loop-rest : goal.invariant-loop-rest
invariant-loop-rest l = with_live l.times l.rest ≡ times_of l.live

abbrev pub decreases-loop-rest : goal.decreases-loop-rest
decreases-loop-rest l = length l.rest
