use Rattle.std.proofs.Common.{◌≤◌, ◌-◌, length}
use Rattle.chains.proofs.branching.later_from.Given as goal

abbrev pub invariant-loop-begun : goal.invariant-loop-begun
invariant-loop-begun l = l.begun ≤ length l.branches

abbrev pub decreases-loop-begun : goal.decreases-loop-begun
decreases-loop-begun l = length l.branches - l.begun
