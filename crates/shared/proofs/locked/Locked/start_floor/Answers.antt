use Rattle.std.proofs.Common.{subst, sym}
use Rattle.shared.specs.Seen.{Seen}
use Rattle.shared.specs.Shared.{FloorHappens}
use Rattle.shared.proofs.Moves.{repass, floor-begins}
use Rattle.shared.proofs.locked.Locked.start_floor.Goals as goal

pub invariant_of-self : goal.invariant_of-self
invariant_of-self g c =
    let w = c.meet.ensures.writer in
    (floor-begins _ _ _ _ _ _ _ _ _ _ _ _ _ (repass _ _ _ _ _ _ _ _ _ _ _ c.self.invariant w.0 w.1 w.2 w.3 w.4) c.start_floor.ensures).0

pub returns-clause-happens : goal.returns-clause-happens
returns-clause-happens g c =
    subst (λ (s : Seen). FloorHappens g.L.Opening.start g.L.Opening.kind c.args.scope c.args.floor c.start_floor.result s) (sym c.meet.ensures.seen)
    (floor-begins _ _ _ _ _ _ _ _ _ _ _ _ _ c.self.invariant c.start_floor.ensures).1
