use Rattle.std.proofs.Common.{◌∙◌, ap, drop}
use Rattle.std.specs.Prelude.{option_map}
use Rattle.std.specs.List.{slice_get}
use Rattle.archive.specs.Answers.{head_of}
use Rattle.vacuum.specs.Archives.{Walked}
use Rattle.vacuum.proofs.Nexts.{moved-ahead}
use Rattle.vacuum.proofs.archive_walk.ArchiveWalkRecordWalk.advance.Goals as goal

pub invariant_of-self : goal.invariant_of-self
invariant_of-self c =
    let w = c.self.inside in
    moved-ahead w.since w.upto w.place c.place_behind-behind.result w.frozen w.ahead c.moves.new.ahead c.args.head.now c.place_behind-behind.ensures.is
    c.self.invariant
    (ap (λ (v : Walked). option_map head_of (slice_get v.left 0)) c.self.view_is ∙ c.requires) (c.moves.ensures c.if-moves.true)

pub returns-then-moves-clause-left : goal.returns-then-moves-clause-left
returns-then-moves-clause-left c =
    let w = c.self.inside in
    c.place_behind-behind.ensures.left w.since w.upto w.place (ap (λ (v : Walked). option_map head_of (slice_get v.left 0)) c.self.view_is ∙ c.requires)
    ∙ ap (λ (v : Walked). drop 1 v.left) c.self.view_is

pub returns-clause-left : goal.returns-clause-left
returns-clause-left c =
    let w = c.self.inside in
    c.stand_at-stand.ensures.left
    ∙ c.place_behind-behind.ensures.left w.since w.upto w.place (ap (λ (v : Walked). option_map head_of (slice_get v.left 0)) c.self.view_is ∙ c.requires)
    ∙ ap (λ (v : Walked). drop 1 v.left) c.self.view_is
