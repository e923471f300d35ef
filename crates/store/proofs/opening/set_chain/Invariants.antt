use Rattle.std.proofs.Common.{◌≡◌, length}
use Rattle.extents.specs.Times.{with_times}
use Rattle.store.proofs.opening.set_chain.Given as goal

abbrev pub invariant-loop-rest : goal.invariant-loop-rest
invariant-loop-rest l = with_times l.times l.rest l.time ≡ with_times l.fn.times l.numbers l.time

abbrev pub decreases-loop-rest : goal.decreases-loop-rest
decreases-loop-rest l = length l.rest
