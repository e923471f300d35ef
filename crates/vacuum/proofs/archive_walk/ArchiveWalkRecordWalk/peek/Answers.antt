use Rattle.std.proofs.Common.{◌∙◌, ap}
use Rattle.std.specs.List.{slice_get}
use Rattle.vacuum.specs.Ahead.{IsNext}
use Rattle.vacuum.specs.Archives.{Walked}
use Rattle.vacuum.proofs.Nexts.{first-left}
use Rattle.vacuum.proofs.archive_walk.ArchiveWalkRecordWalk.peek.Goals as goal

pub returns-in-Some : goal.returns-in-Some
returns-in-Some c =
    let w = c.self.inside in
    let next : IsNext w.since w.upto w.place w.frozen c.in-Some.ahead = rw c.in-Some.is at c.self.invariant in
    c.record.ensures ∙ first-left w.since w.upto w.place w.frozen c.in-Some.ahead next ∙ ap (λ (v : Walked). slice_get v.left 0) c.self.view_is
