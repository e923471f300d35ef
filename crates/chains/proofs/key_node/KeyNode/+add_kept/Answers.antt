use Rattle.std.proofs.Common.{◌≡◌, ◌∙◌, ◌++◌, [], List, ap, sym, refl, subst, arith, append-nil, append_assoc}
use Rattle.chains.specs.KeyWrites.{KeyWrites, IsOrdered, forgotten}
use Rattle.chains.specs.Shapes.{Shape, all_of}
use Rattle.chains.proofs.KeyNodes.{kept_first, same_first}
use Rattle.chains.proofs.Order.{ordered-forgotten}
use Rattle.chains.proofs.Shapes.{behind, behind_low, none-left, popped}
use Rattle.chains.proofs.key_node.KeyNode.+add_kept.Goals as goal

pub returns-then-are_kept-clause-is : goal.returns-then-are_kept-clause-is
returns-then-are_kept-clause-is t c =
    let found = all_of c.args.found.now.items in
    let same : forgotten c.args.mark c.args.self.now.chunks ≡ c.args.self.now.chunks =
    subst (λ (m : List KeyWrites). forgotten c.args.mark m
    ≡ m) (sym (ap (λ (n : Shape KeyWrites). n.chunks) c.in-Chains.ensures.0)) (c.are_kept.ensures c.if-are_kept.true) in
    popped _ _ c.in_ok-push-in-Chains.ensures.items ∙ ap (λ (n : Shape KeyWrites). found ++ n.chunks) c.in_ok-share-in-Chains.ensures
    ∙ ap (λ (m : List KeyWrites). found ++ m) (sym same)

pub add_leaves-requires : goal.add_leaves-requires
add_leaves-requires t c = rw c.in_ok-kept_of-in-Chains.ensures (ordered-forgotten c.args.mark c.in-Chains.chains.now c.in-Chains.ensures.1)

pub loop-rest-preserved-then-branch : goal.loop-rest-preserved-then-branch
loop-rest-preserved-then-branch t c =
    let rest = c.loop-rest.rest.now in
    let some = c.in-len1-up.len_at_least in
    let later = forgotten c.args.mark (all_of (behind rest)) in
    record {
      low = omega (arith, behind_low rest some c.node-item.is, c.loop-rest.invariant.low);
      put =
          ap (λ (l : List KeyWrites). l ++ later) c.in_ok-is_same.ensures.is
          ∙ append_assoc (all_of c.loop-rest.all.items) (forgotten c.args.mark c.node-item.result.chunks) later
          ∙ ap (λ (l : List KeyWrites). all_of c.loop-rest.all.items ++ l) (sym (kept_first rest some c.node-item.is c.args.mark))
          ∙ c.loop-rest.invariant.put;
      same = λ is kept. c.loop-rest.invariant.same is (same_first rest some c.node-item.is c.args.mark (c.in_ok-is_same.ensures.same c.if-branch.true) kept);
    }

pub loop-rest-preserved : goal.loop-rest-preserved
loop-rest-preserved t c =
    let rest = c.loop-rest.rest.now in
    let some = c.in-len1-up.len_at_least in
    let later = forgotten c.args.mark (all_of (behind rest)) in
    record {
      low = omega (arith, behind_low rest some c.node-item.is, c.loop-rest.invariant.low);
      put =
          ap (λ (l : List KeyWrites). l ++ later) c.in_ok-is_same.ensures.is
          ∙ append_assoc (all_of c.loop-rest.all.items) (forgotten c.args.mark c.node-item.result.chunks) later
          ∙ ap (λ (l : List KeyWrites). all_of c.loop-rest.all.items ++ l) (sym (kept_first rest some c.node-item.is c.args.mark))
          ∙ c.loop-rest.invariant.put;
      same = λ is kept. absurd (cc);
    }

pub returns-then-is_same-clause-is : goal.returns-then-is_same-clause-is
returns-then-is_same-clause-is t c =
    let found = all_of c.args.found.now.items in
    let none : all_of c.loop-rest.rest.now ≡ [] = none-left c.loop-rest.rest.now c.in_default.len_below in
    let same : forgotten c.args.mark c.args.self.now.chunks ≡ c.args.self.now.chunks = c.loop-rest.invariant.same c.if-is_same.true (rw none refl) in
    popped _ _ c.in_ok-push.ensures.items ∙ ap (λ (n : Shape KeyWrites). found ++ n.chunks) c.in_ok-share.ensures
    ∙ ap (λ (m : List KeyWrites). found ++ m) (sym same)

pub add_forks-requires : goal.add_forks-requires
add_forks-requires t c =
    let all = all_of c.loop-rest.all.items in
    let none : all_of c.loop-rest.rest.now ≡ [] = none-left c.loop-rest.rest.now c.in_default.len_below in
    let is : all ≡ forgotten c.args.mark c.args.self.now.chunks =
    sym (append-nil all) ∙ ap (λ (m : List KeyWrites). all ++ forgotten c.args.mark m) (sym none) ∙ c.loop-rest.invariant.put in
    rw is (ordered-forgotten c.args.mark c.args.self.now.chunks (subst IsOrdered c.in-Nodes.ensures.chains c.in-Nodes.ensures.ordered))
