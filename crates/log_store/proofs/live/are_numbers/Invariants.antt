use Rattle.std.proofs.Common.{◌↔◌, length}
use Rattle.log_store.specs.Live.{AreNumbers}
use Rattle.log_store.proofs.live.are_numbers.Given as goal

abbrev pub invariant-loop-rest : goal.invariant-loop-rest
invariant-loop-rest l = AreNumbers l.rest ↔ AreNumbers l.numbers

abbrev pub decreases-loop-rest : goal.decreases-loop-rest
decreases-loop-rest l = length l.rest
