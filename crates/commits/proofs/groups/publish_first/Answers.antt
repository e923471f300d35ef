use Rattle.std.proofs.Common.{◌≡◌, ◌-◌, ◌+◌, suc, ℕ, List, ◌∷◌, take, drop, arith, subst}
use Rattle.chains.specs.KeyWrites.{KeyWrites}
use Rattle.commits.specs.Values.{WaitingValue, versions_after}
use Rattle.commits.proofs.Kept.{AreLeft, one_less}
use Rattle.commits.proofs.groups.publish_first.Goals as goal

pub loop-preserved : goal.loop-preserved
loop-preserved c =
    let w = c.in-Some.waiting in
    let ws = c.pop_front.new.self.items in
    let count = c.args.count in
    let all = c.args.queue.now.items in
    let Left = λ (versions : List KeyWrites) (queue : List WaitingValue) (left : ℕ).
    AreLeft versions queue left (versions_after c.args.versions.now (take count all)) (drop count all) in
    let left = count - (c.loop.counter + 1) in
    let more : count - c.loop.counter ≡ suc left = omega (arith, c.loop-test.true) in
    let before : Left c.loop.versions (w ∷ ws) (suc left) =
    subst (λ (n : ℕ). Left c.loop.versions (w ∷ ws) n) more
    (subst (λ (xs : List WaitingValue). Left c.loop.versions xs (count - c.loop.counter)) c.in-Some.ensures.items c.loop.invariant) in
    rw c.into_after.ensures (one_less left before)
