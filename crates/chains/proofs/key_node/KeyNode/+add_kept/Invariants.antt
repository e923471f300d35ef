use Rattle.std.proofs.Common.{◌≡◌, ◌++◌, ◌<◌, length}
use Rattle.std.specs.Prelude.{IsTrue}
use Rattle.chains.specs.KeyWrites.{forgotten}
use Rattle.chains.specs.Shapes.{all_of, highest}
use Rattle.chains.proofs.key_node.KeyNode.+add_kept.Given as goal

abbrev pub decreases-add_kept : goal.decreases-add_kept
decreases-add_kept l = goal.size-add_kept l

-- what was put and what is kept of the nodes that are left is all; where these too are the same, all is
abbrev pub invariant-loop-rest : goal.invariant-loop-rest
invariant-loop-rest l = record {
  low : highest l.rest < l.self.height;
  put : all_of l.all.items ++ forgotten l.mark (all_of l.rest) ≡ forgotten l.mark l.self.chunks;
  same : IsTrue l.is_same → forgotten l.mark (all_of l.rest) ≡ all_of l.rest → forgotten l.mark l.self.chunks ≡ l.self.chunks;
}

abbrev pub decreases-loop-rest : goal.decreases-loop-rest
decreases-loop-rest l = length l.rest
