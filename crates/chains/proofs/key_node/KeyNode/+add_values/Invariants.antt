use Rattle.std.proofs.Common.{◌≡◌, ◌++◌, ◌<◌, length}
use Rattle.chains.specs.KeyWrites.{IsOrdered}
use Rattle.chains.specs.Rows.{of_relation}
use Rattle.chains.specs.Scans.{shown_value}
use Rattle.chains.specs.Shapes.{all_of, highest}
use Rattle.chains.proofs.key_node.KeyNode.+add_values.Given as goal

abbrev pub decreases-add_values : goal.decreases-add_values
decreases-add_values l = goal.size-add_values l

-- what is left is no higher than what lies below the fork, and shows what was not put yet
abbrev pub invariant-loop-rest : goal.invariant-loop-rest
invariant-loop-rest l = record {
  low : highest l.rest < l.self.height;
  ordered : IsOrdered (all_of l.rest);
  left : l.found.items ++ of_relation l.relation (shown_value l.time) (all_of l.rest) ≡ l.fn.found.items
      ++ of_relation l.relation (shown_value l.time) l.self.chunks;
}

abbrev pub decreases-loop-rest : goal.decreases-loop-rest
decreases-loop-rest l = length l.rest
