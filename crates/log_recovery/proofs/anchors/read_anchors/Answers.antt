use Rattle.std.proofs.Common.{◌≡◌, ⊎_elim, arith, refl}
use Rattle.std.proofs.lemmas.Bool.Decides.{nat_tests}
use Rattle.log_recovery.proofs.AnchorChains.{none_read}
use Rattle.log_recovery.proofs.anchors.read_anchors.Goals as goal

pub returns-then-name-eq0-clause-found : goal.returns-then-name-eq0-clause-found
returns-then-name-eq0-clause-found g c = λ told.
    ⊎_elim
    (λ none. none_read c.args.heap.most c.args.mark (g.D.Disk.state c.args.disk.now).areas.heap.bytes c.args.space.now c.args.name.now c.no_anchors.result none
    c.no_anchors.ensures.numbers c.no_anchors.ensures.len c.no_anchors.ensures.versions)
    (λ some. absurd (let low = some.extents_low in grind (arith, nat_tests)))
    c.requires.name
