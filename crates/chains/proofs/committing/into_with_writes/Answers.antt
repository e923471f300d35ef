use Rattle.std.proofs.Common.{◌≡◌, ◌∙◌, ◌++◌, [], List, ap, sym, refl, subst}
use Rattle.chains.specs.KeyWrites.{KeyWrites, IsOrdered, with_commit}
use Rattle.chains.proofs.CommitParts.{right_earlier, commit-around_chain, put-around}
use Rattle.chains.proofs.committing.into_with_writes.Goals as goal

pub loop-chain-preserved : goal.loop-chain-preserved
loop-chain-preserved c =
    let rest = c.next.new.self.rest.items in
    let first = c.in-Some.ensures.steps.0 in
    let old = c.loop-chain.found.items in
    let later = with_commit rest c.args.time c.own_write.result.1.now in
    let whole =
    commit-around_chain [] c.in-Some.chain rest first c.key-key.ensures c.loop-chain.invariant.ordered c.args.time c.loop-chain.left.now _ _ _ _
    c.parted.ensures c.own_write.ensures in
    let same : _ ≡ old ++ with_commit c.loop-chain.chain-iterator.rest.items c.args.time c.loop-chain.left.now =
    rw c.in_ok-written.ensures (ap (λ (l : List KeyWrites). old ++ l) (sym whole)) in
    record {
      ordered = (subst IsOrdered first c.loop-chain.invariant.ordered).1;
      earlier = right_earlier [] c.in-Some.chain rest first c.args.time c.loop-chain.invariant.earlier;
      rising = c.own_write.ensures.rising_after;
      put =
          put-around old c.add_new.new.found.items c.push.new.self.items (c.push.new.self.items
          ++ later) (with_commit [] c.args.time c.parted.result.0.now) later c.in_ok-written.written c.in_ok-add_new.ensures c.in_ok-push.ensures.items refl
          ∙ same ∙ c.loop-chain.invariant.put;
    }
