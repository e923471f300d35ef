use Rattle.std.proofs.Common.{◌≡◌, ◌≤◌, ◌++◌, ◌∷◌, [], List, map, ap, sym, subst, ◌∙◌}
use Rattle.std.proofs.lemmas.List.{append-nil}
use Rattle.chains.specs.KeyWrites.{KeyWrites, latest}
use Rattle.deltas.specs.declared.«record».Record.{Record}
use Rattle.recovery.specs.Anchored.{anchor_writes}
use Rattle.recovery.proofs.AnchorChains.{none_left, next_ordered, latest_anchors}
use Rattle.recovery.proofs.anchors.anchored.Goals as goal

pub with_key-requires-clause-ordered : goal.with_key-requires-clause-ordered
with_key-requires-clause-ordered c =
    let split : c.loop-anchor.rest.now ≡ c.in-Some.anchor.now ∷ c.in-Some.after.now = c.in-Some.ensures.cases.0 in
    let are = subst (λ (l : List Record). c.loop-anchor.chains ++ map anchor_writes l ≡ map anchor_writes c.args.anchors.now) split c.loop-anchor.invariant.0 in
    rw c.in_ok-write.ensures (next_ordered c.loop-anchor.chains c.args.anchors.now c.in-Some.anchor.now c.in-Some.after.now are c.requires.anchors.rising)

pub returns-clause-latest : goal.returns-clause-latest
returns-clause-latest c =
    let none : c.loop-anchor.rest.now ≡ [] = none_left c.loop-anchor.rest.now c.in_default.ensures.cases in
    let is : c.loop-anchor.chains ≡ map anchor_writes c.args.anchors.now =
    sym (append-nil c.loop-anchor.chains) ∙ ap (λ (l : List Record). c.loop-anchor.chains ++ map anchor_writes l) (sym none) ∙ c.loop-anchor.invariant.0 in
    subst (λ (m : List KeyWrites). latest m ≤ c.args.mark) (sym is) (latest_anchors c.args.mark c.args.anchors.now c.requires.anchors.permitted)
