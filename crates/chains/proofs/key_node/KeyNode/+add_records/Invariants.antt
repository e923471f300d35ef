use Rattle.std.proofs.Common.{◌≡◌, ◌++◌, ◌<◌, length}
use Rattle.chains.specs.KeyWrites.{IsOrdered}
use Rattle.chains.specs.Rows.{of_relation, shown_rows}
use Rattle.chains.specs.Shapes.{all_of, highest}
use Rattle.chains.proofs.key_node.KeyNode.+add_records.Given as goal

abbrev pub decreases-add_records : goal.decreases-add_records
decreases-add_records l = goal.size-add_records l

-- what is left is no higher than what lies below the fork, and shows what was not put yet
abbrev pub invariant-loop-rest : goal.invariant-loop-rest
invariant-loop-rest l = record {
  low : highest l.rest < l.self.height;
  ordered : IsOrdered (all_of l.rest);
  left : l.found.items ++ of_relation l.relation (shown_rows l.a l.b) (all_of l.rest) ≡ l.fn.found.items
      ++ of_relation l.relation (shown_rows l.a l.b) l.self.chunks;
}

abbrev pub decreases-loop-rest : goal.decreases-loop-rest
decreases-loop-rest l = length l.rest
