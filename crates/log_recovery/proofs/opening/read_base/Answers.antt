use Rattle.std.proofs.Common.{◌≡◌, [], List, sym, ◌∙◌, subst, ap}
use Rattle.std.specs.Prelude.{option_to_list}
use Rattle.log_entries.specs.declared.entry.AnchorName.{AnchorName}
use Rattle.log_recovery.specs.Anchored.{TakesAnchors, first_names}
use Rattle.log_recovery.proofs.AnchorChains.{none_named}
use Rattle.log_recovery.proofs.opening.read_base.Goals as goal

pub returns-in_default-clause-found : goal.returns-in_default-clause-found
returns-in_default-clause-found g c = λ told.
    let none : first_names c.args.chains.now ≡ [] = sym c.in_default.ensures.is in
    let heap = (g.D.Disk.state c.args.disk.now).areas.heap.bytes in
    subst (λ (l : List AnchorName). TakesAnchors c.args.heap.most c.args.mark heap c.args.space.now c.args.space.now l c.no_anchors.result) (sym none)
    (none_named c.args.heap.most c.args.mark heap c.args.space.now c.no_anchors.result c.no_anchors.ensures.numbers c.no_anchors.ensures.len
    c.no_anchors.ensures.versions)
