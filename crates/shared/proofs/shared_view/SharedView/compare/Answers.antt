use Rattle.std.proofs.Common.{subst, sym}
use Rattle.crossbeam_utils.specs.Seq.{cell_view}
use Rattle.shared.specs.Seen.{Known}
use Rattle.shared.specs.Shared.{Shows}
use Rattle.shared.proofs.Moments.{shows-later}
use Rattle.shared.proofs.shared_view.SharedView.compare.Goals as goal

pub returns-clause-shows : goal.returns-clause-shows
returns-clause-shows g c =
    let e = c.compare.ensures in
    subst (λ (k : Known). Shows g.L.Opening.start g.L.Opening.mark (cell_view c.args.writer.now).archive c.self.inside.view k.seen) (sym e.kept)
    (shows-later _ _ _ _ _ _ e.more.archive c.self.invariant)
