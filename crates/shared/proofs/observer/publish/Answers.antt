use Rattle.std.proofs.Common.{rules, sym, [], ◌∷◌}
use Rattle.shared.proofs.Passes.{publishes}
use Rattle.shared.proofs.observer.publish.Goals as goal

pub swap_as-requires : goal.swap_as-requires
swap_as-requires g c =
    let r = c.requires in (search rules, (search rules, (r.cell, publishes _ _ g.K.Next.next (c.args.time ∷ []) r.writes r.later r.legal (sym r.time))))
