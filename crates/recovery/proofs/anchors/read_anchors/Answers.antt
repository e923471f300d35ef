use Rattle.recovery.proofs.AnchorChains.{anchors_held, anchors_missing}
use Rattle.recovery.proofs.anchors.read_anchors.Goals as goal
use Rattle.std.proofs.Common.{refl, ap, map, ◌∙◌}
use Rattle.recovery.specs.Anchored.{anchor_writes}

pub returns-in_default-clause-found : goal.returns-in_default-clause-found
returns-in_default-clause-found g c = λ told.
    let none = rw c.in_default.is at (c.in_ok-read.ensures.found told) in
    anchors_missing _ c.args.heap_len c.args.anchors.now _ _ (c.requires.len told) c.in_ok-extents.ensures c.name_of-name.ensures none

pub returns-clause-found : goal.returns-clause-found
returns-clause-found g c = λ told.
    let read = rw c.in-Some.is at (c.in_ok-read.ensures.found told) in
    anchors_held _ c.args.heap_len c.args.anchors.now _ _ (c.requires.len told) c.in_ok-extents.ensures c.name_of-name.ensures _ c.in-Some.read _
    c.requires.in_range read refl c.new-2.ensures.items
    (c.in_ok-chains.ensures.is ∙ ap (λ l. map anchor_writes l) c.deref.ensures.value) refl
