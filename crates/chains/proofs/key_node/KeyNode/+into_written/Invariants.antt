use Rattle.std.proofs.Common.{◌≡◌, ◌++◌, ◌<◌, [], List, length, map}
use Rattle.std.specs.List.Sorted.{IsStrictlySortedBy}
use Rattle.std.specs.Prelude.{option_to_list}
use Rattle.history.specs.declared.key.KeyWrite.{KeyWrite}
use Rattle.history.specs.Key.{key_cmp}
use Rattle.chains.specs.KeyWrites.{KeyWrites, IsOrdered, latest, with_commit}
use Rattle.chains.specs.Shapes.{Shape, all_of, highest}
use Rattle.chains.specs.Writes.{Value}
use Rattle.chains.proofs.key_node.KeyNode.+into_written.Given as goal

abbrev pub decreases-into_written : goal.decreases-into_written
decreases-into_written l = goal.size-into_written l

-- what was put and what the writes that are left make of the node that waits and of those that are left is all
abbrev pub invariant-loop-node : goal.invariant-loop-node
invariant-loop-node l =
    let rest : List (Shape KeyWrites) = option_to_list l.last ++ l.node-iterator.rest.items in
    record {
      low : highest rest < l.fn.self.height;
      ordered : IsOrdered (all_of rest);
      earlier : latest (all_of rest) < l.time;
      rising : IsStrictlySortedBy key_cmp (map (λ (w : KeyWrite Value). w.key) l.left);
      none : length rest < 1 → l.left ≡ [];
      put : all_of l.all.items ++ with_commit (all_of rest) l.time l.left ≡ with_commit l.fn.self.chunks l.time l.fn.writes;
    }
