use Rattle.std.proofs.Common.{◌++◌, List, ap, sym, subst, append_assoc}
use Rattle.chains.specs.KeyWrites.{KeyWrites, IsOrdered}
use Rattle.chains.specs.Shapes.{all_of}
use Rattle.chains.proofs.Order.{ordered-front}
use Rattle.chains.proofs.Shapes.{put-part, popped}
use Rattle.chains.proofs.key_parts.add_forks.Goals as goal

pub put_full_fork-requires : goal.put_full_fork-requires
put_full_fork-requires c = ordered-front (all_of c.loop-node.part.items) (all_of c.loop-node.node-iterator.rest.items) c.loop-node.invariant.ordered

pub loop-node-preserved : goal.loop-node-preserved
loop-node-preserved c =
    let node = c.in-Some.node in
    let rest = all_of c.next.new.self.rest.items in
    let first = ap all_of c.in-Some.ensures.steps.0 in
    let part = all_of c.put_full_fork.new.part.items in
    let grown = popped _ _ c.in_ok-push.ensures.items in
    record {
      ordered =
          subst (λ (l : List KeyWrites). IsOrdered (l ++ rest)) (sym grown)
          (subst IsOrdered (sym (append_assoc part node.chunks rest))
          (c.in_ok-put_full_fork.ensures.ordered (node.chunks
          ++ rest) (subst (λ (l : List KeyWrites). IsOrdered (all_of c.loop-node.part.items ++ l)) first c.loop-node.invariant.ordered)));
      left =
          put-part (all_of c.loop-node.found.items) (all_of c.put_full_fork.new.found.items) (all_of c.loop-node.part.items) part (all_of c.push.new.self.items)
          node.chunks (all_of c.loop-node.node-iterator.rest.items) rest _
          c.in_ok-put_full_fork.ensures.is grown first c.loop-node.invariant.left;
    }
