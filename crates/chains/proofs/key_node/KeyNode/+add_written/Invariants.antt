use Rattle.std.proofs.Common.{◌≡◌, ◌++◌, ◌<◌, [], length, map}
use Rattle.std.specs.List.Sorted.{IsStrictlySortedBy}
use Rattle.history.specs.declared.key.KeyWrite.{KeyWrite}
use Rattle.history.specs.Key.{key_cmp}
use Rattle.chains.specs.KeyWrites.{IsOrdered, latest, with_commit}
use Rattle.chains.specs.Shapes.{all_of, highest}
use Rattle.chains.specs.Writes.{Value}
use Rattle.chains.proofs.key_node.KeyNode.+add_written.Given as goal

abbrev pub decreases-add_written : goal.decreases-add_written
decreases-add_written l = goal.size-add_written l

-- what was put and what the writes that are left make of the nodes that are left is all
abbrev pub invariant-loop-rest : goal.invariant-loop-rest
invariant-loop-rest l = record {
  low : highest l.rest < l.self.height;
  ordered : IsOrdered (all_of l.rest);
  earlier : latest (all_of l.rest) < l.time;
  rising : IsStrictlySortedBy key_cmp (map (λ (w : KeyWrite Value). w.key) l.left);
  none : length l.rest < 1 → l.left ≡ [];
  put : all_of l.all.items ++ with_commit (all_of l.rest) l.time l.left ≡ with_commit l.self.chunks l.time l.fn.writes;
}

abbrev pub decreases-loop-rest : goal.decreases-loop-rest
decreases-loop-rest l = length l.rest
