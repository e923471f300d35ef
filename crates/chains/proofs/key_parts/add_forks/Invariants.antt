use Rattle.std.proofs.Common.{◌≡◌, ◌++◌}
use Rattle.chains.specs.KeyWrites.{IsOrdered}
use Rattle.chains.specs.Shapes.{all_of}
use Rattle.chains.proofs.key_parts.add_forks.Given as goal

-- the part that is filled and what is left, in order, are those that were not put yet
abbrev pub invariant-loop-node : goal.invariant-loop-node
invariant-loop-node l = record {
  ordered : IsOrdered (all_of l.part.items ++ all_of l.node-iterator.rest.items);
  left : all_of l.found.items ++ (all_of l.part.items ++ all_of l.node-iterator.rest.items) ≡ all_of l.fn.found.items ++ all_of l.fn.nodes.items;
}
