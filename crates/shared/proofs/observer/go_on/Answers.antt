use Rattle.std.proofs.Common.{rules}
use Rattle.shared.proofs.Passes.{moves}
use Rattle.shared.proofs.observer.go_on.Goals as goal

pub load_as-requires : goal.load_as-requires
load_as-requires g c =
    let r = c.requires in (search rules, (search rules, (r.cell, moves _ _ g.K.Place.archive r.writes r.later)))
