use Rattle.std.proofs.Common.{◌≡◌, ◌++◌}
use Rattle.chains.specs.KeyWrites.{IsOrdered}
use Rattle.chains.specs.Shapes.{all_of}
use Rattle.chains.proofs.key_parts.add_leaves.Given as goal

-- the part that is filled and what is left, in order, are those that were not put yet
abbrev pub invariant-loop-chain : goal.invariant-loop-chain
invariant-loop-chain l = record {
  ordered : IsOrdered (l.part.items ++ l.chain-iterator.rest.items);
  left : all_of l.found.items ++ (l.part.items ++ l.chain-iterator.rest.items) ≡ all_of l.fn.found.items ++ l.fn.chains.items;
}
