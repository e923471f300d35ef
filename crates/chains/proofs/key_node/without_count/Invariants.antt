use Rattle.std.proofs.Common.{◌≤◌, length, drop}
use Rattle.chains.specs.KeyNodes.{FirstWithin}
use Rattle.chains.proofs.key_node.without_count.Given as goal

abbrev pub invariant-loop-without : goal.invariant-loop-without
invariant-loop-without l = record {
  within : l.without ≤ length l.nodes;
  after : FirstWithin l.bound (drop l.without l.nodes);
}

abbrev pub decreases-loop-without : goal.decreases-loop-without
decreases-loop-without l = l.without
