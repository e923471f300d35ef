use Rattle.std.proofs.Common.{◌∷◌, ◌++◌, [], List, sym, subst, append_assoc}
use Rattle.chains.specs.KeyWrites.{KeyWrites, IsOrdered}
use Rattle.chains.specs.Shapes.{all_of}
use Rattle.chains.proofs.Order.{ordered-front}
use Rattle.chains.proofs.Shapes.{put-part}
use Rattle.chains.proofs.key_parts.add_leaves.Goals as goal

pub put_full_leaf-requires : goal.put_full_leaf-requires
put_full_leaf-requires c = ordered-front c.loop-chain.part.items c.loop-chain.chain-iterator.rest.items c.loop-chain.invariant.ordered

pub loop-chain-preserved : goal.loop-chain-preserved
loop-chain-preserved c =
    let chain = c.in-Some.chain in
    let rest = c.next.new.self.rest.items in
    let first = c.in-Some.ensures.steps.0 in
    let part = c.put_full_leaf.new.part.items in
    let grown = c.in_ok-push.ensures.items in
    record {
      ordered =
          subst (λ (l : List KeyWrites). IsOrdered (l ++ rest)) (sym grown)
          (subst IsOrdered (sym (append_assoc part (chain ∷ []) rest))
          (c.in_ok-put_full_leaf.ensures.ordered (chain
          ∷ rest) (subst (λ (l : List KeyWrites). IsOrdered (c.loop-chain.part.items ++ l)) first c.loop-chain.invariant.ordered)));
      left =
          put-part (all_of c.loop-chain.found.items) (all_of c.put_full_leaf.new.found.items) c.loop-chain.part.items part c.push.new.self.items (chain
          ∷ []) c.loop-chain.chain-iterator.rest.items rest _
          c.in_ok-put_full_leaf.ensures.is grown first c.loop-chain.invariant.left;
    }
