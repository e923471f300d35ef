use Rattle.std.proofs.Common.{◌≡◌, ℕ, List, ap, refl, ◌∙◌}
use Rattle.disk.specs.Calls.{DiskState}
use Rattle.recovery.specs.Walk.{extent_at}
use Rattle.recovery.proofs.Walking.{walk_fails, walk_goes_on}
use Rattle.recovery.proofs.chain.read_chain.Goals as goal

pub returns-then-not-claim-clause-chain : goal.returns-then-not-claim-clause-chain
returns-then-not-claim-clause-chain g c = λ told.
    walk_fails _ _ _ _ _ _ _ _ _ _ (c.loop-i.invariant.1 told) c.loop-i-test.true (λ both. let absurdity = c.if-not-claim.ensures.claimed.1 both in cc)

pub loop-i-preserved : goal.loop-i-preserved
loop-i-preserved g c = (
  c.in_ok-image.ensures.reads ∙ c.loop-i.invariant.0,
  λ told.
      let there = c.if-not-claim.ensures.claimed.0 refl in
      let heap : List ℕ = (g.D.Disk.state c.args.disk.now).areas.heap.bytes in
      let is : c.in_ok-image.image ≡ extent_at heap c.loop-i.next =
      c.in_ok-image.ensures.bytes told ∙ ap (λ (s : DiskState). extent_at s.areas.heap.bytes c.loop-i.next) c.loop-i.invariant.0 in
      rw (c.in_ok-push.ensures.items, c.in_ok-push-2.ensures.items, c.if-not-claim.ensures.kept, c.next-next.ensures)
      (walk_goes_on _ _ _ _ _ _ _ _ _ _ (c.loop-i.invariant.1 told) c.loop-i-test.true c.in_ok-image.image there.0 there.1 is),
)
