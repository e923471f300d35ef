use Rattle.std.proofs.Common.{◌≡◌, ◌<◌, length}
use Rattle.std.specs.Prelude.{find}
use Rattle.chains.specs.Bounds.{is_in}
use Rattle.chains.specs.KeyWrites.{KeyWrites}
use Rattle.chains.specs.Shapes.{all_of, highest}
use Rattle.chains.proofs.key_node.KeyNode.+least.Given as goal

abbrev pub decreases-least : goal.decreases-least
decreases-least l = goal.size-least l

-- what is left is no higher than what lies below the fork, and the chain is found in it
abbrev pub invariant-loop-rest : goal.invariant-loop-rest
invariant-loop-rest l = record {
  low : highest l.rest < l.self.height;
  found : find (λ (c : KeyWrites). is_in l.bound c.key) (all_of l.rest) ≡ find (λ (c : KeyWrites). is_in l.bound c.key) l.self.chunks;
}

abbrev pub decreases-loop-rest : goal.decreases-loop-rest
decreases-loop-rest l = length l.rest
