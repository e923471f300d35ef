use Rattle.std.proofs.Common.{◌≡◌, ◌++◌, length}
use Rattle.snapshot.specs.Scans.{overlaid}
use Rattle.snapshot.proofs.scan.overlay.Given as goal

abbrev pub invariant-loop-left : goal.invariant-loop-left
invariant-loop-left l = l.found.items ++ overlaid l.relation l.rest l.left ≡ overlaid l.relation l.pairs l.writes

abbrev pub decreases-loop-left : goal.decreases-loop-left
decreases-loop-left l = length l.left
