use Rattle.std.proofs.Common.{◌≤◌, length, drop}
use Rattle.chains.specs.Branches.{BeginAfter}
use Rattle.chains.proofs.branching.begun_by.Given as goal

abbrev pub invariant-loop-begun : goal.invariant-loop-begun
invariant-loop-begun l = record {
  within : l.begun ≤ length l.branches;
  after : BeginAfter l.time (drop l.begun l.branches);
}

abbrev pub decreases-loop-begun : goal.decreases-loop-begun
decreases-loop-begun l = l.begun
