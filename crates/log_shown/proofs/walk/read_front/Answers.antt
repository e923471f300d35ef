use Rattle.std.proofs.Common.{◌≡◌, ℕ, ◌∷◌, [], List, refl, sym, ◌∙◌, ap, subst}
use Rattle.disk.specs.Calls.{DiskState}
use Rattle.std.specs.List.{AllByRecursion}
use Rattle.log_entries.specs.Ranges.{IsEntry}
use Rattle.log_extents.specs.Chains.{IsNumberOf}
use Rattle.law_log_layout.specs.HeapLog.{PlacedChain}
use Rattle.log_recovery.specs.Chains.{HasOpenGate, HasNoLogChain, TakesChain}
use Rattle.log_recovery.proofs.Walking.{all_joined, IsWalking, walking_goes_on, walking_fails}
use Rattle.log_shown.proofs.walk.read_front.Goals as goal

pub returns-in_default-clause-front : goal.returns-in_default-clause-front
unfolding walking_fails
returns-in_default-clause-front g c = λ told.
    let heap = (g.D.Disk.state c.args.disk.now).areas.heap.bytes in
    let looked : g.D.Disk.state c.has_open_gate.new.disk ≡ g.D.Disk.state c.args.disk.now =
    c.in_ok-has_open_gate.ensures.reads ∙ c.loop-chains.invariant.0 in
    let opened : HasOpenGate heap c.loop-chains.next =
    subst (λ (s : DiskState). HasOpenGate s.areas.heap.bytes c.loop-chains.next) c.loop-chains.invariant.0
    ((c.in_ok-has_open_gate.ensures.gate told).0 c.if-branch.true) in
    let none : HasNoLogChain c.args.heap.most heap c.loop-chains.next c.loop-chains.space =
    subst (λ (s : DiskState). HasNoLogChain c.args.heap.most s.areas.heap.bytes c.loop-chains.next c.loop-chains.space) looked
    (rw c.in_default.is at c.in_ok-chain.ensures.found told) in
    let fails = walking_fails c.args.heap.most c.args.root heap c.loop-chains.chains.items c.loop-chains.next c.loop-chains.space
    (c.loop-chains.invariant.3 told) opened none in
    (fails, refl)

pub loop-chains-smaller : goal.loop-chains-smaller
loop-chains-smaller g c = rw c.in-Some.is at c.in_ok-chain.ensures.fewer

pub loop-chains-preserved : goal.loop-chains-preserved
loop-chains-preserved g c =
    let link_is : c.in-Some.chain.link ≡ c.chain.inside.link = sym (ap (λ (x : PlacedChain). x.link) c.chain.view_is) in
    let link : IsNumberOf c.args.heap.most c.in-Some.chain.link = rw c.in-Some.is at c.in_ok-chain.ensures.link in
    let looked : g.D.Disk.state c.has_open_gate.new.disk ≡ g.D.Disk.state c.args.disk.now =
    c.in_ok-has_open_gate.ensures.reads ∙ c.loop-chains.invariant.0 in (
      c.in_ok-chain.ensures.reads ∙ looked,
      subst (IsNumberOf c.args.heap.most) link_is link,
      subst (AllByRecursion (λ (d : PlacedChain). IsEntry c.args.heap.most d.entry)) (sym c.in_ok-push.ensures.items)
          (all_joined (λ (d : PlacedChain). IsEntry c.args.heap.most d.entry) c.loop-chains.chains.items (c.in-Some.chain ∷ []) c.loop-chains.invariant.2
          (rw c.in-Some.is at c.in_ok-chain.ensures.entry, tt)),
      λ told.
          let heap = (g.D.Disk.state c.args.disk.now).areas.heap.bytes in
          let takes : TakesChain c.args.heap.most heap c.loop-chains.next c.loop-chains.space c.read_log_chain.new.space c.in-Some.chain =
          subst
          (λ (s : DiskState). TakesChain c.args.heap.most s.areas.heap.bytes c.loop-chains.next c.loop-chains.space c.read_log_chain.new.space c.in-Some.chain)
          looked (rw c.in-Some.is at c.in_ok-chain.ensures.found told) in
          subst (λ (n : ℕ). IsWalking c.args.heap.most c.args.root heap c.push.new.self.items n c.read_log_chain.new.space) link_is
          (subst (λ (l : List PlacedChain). IsWalking c.args.heap.most c.args.root heap l c.in-Some.chain.link c.read_log_chain.new.space)
          (sym c.in_ok-push.ensures.items)
          (walking_goes_on c.args.heap.most c.args.root heap c.loop-chains.chains.items c.loop-chains.next c.loop-chains.space c.read_log_chain.new.space
          c.in-Some.chain (c.loop-chains.invariant.3 told) takes)),
    )
