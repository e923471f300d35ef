use Rattle.std.proofs.Common.{◌≡◌, ◌+◌, ◌-◌, ◌≤◌, length}
use Rattle.log_recovery.specs.Ends.{counted_in}
use Rattle.log_recovery.proofs.shares.count_log.Given as goal

abbrev pub invariant-loop-chain : goal.invariant-loop-chain
invariant-loop-chain l = (l.left ≤ l.fn.most) × (length (counted_in l.rest) + (l.fn.most - l.left) ≡ length (counted_in l.fn.chains))

abbrev pub decreases-loop-chain : goal.decreases-loop-chain
decreases-loop-chain l = length l.rest
