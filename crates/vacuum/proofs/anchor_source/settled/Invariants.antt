use Rattle.std.proofs.Common.{◌≡◌, length}
use Rattle.vacuum.specs.Archives.{keys_within}
use Rattle.vacuum.specs.Anchors.{olds_at}
use Rattle.vacuum.proofs.anchor_source.settled.Given as goal

abbrev pub invariant-loop-chain : goal.invariant-loop-chain
invariant-loop-chain l = olds_at l.mark l.bound l.frozen ≡ olds_at l.mark l.initial.bound l.frozen

abbrev pub decreases-loop-chain : goal.decreases-loop-chain
decreases-loop-chain l = length (keys_within l.bound l.frozen)
