use Rattle.std.proofs.Common.{subst, sym}
use Rattle.shared.specs.Seen.{Seen}
use Rattle.shared.specs.Shared.{ReclaimHappens}
use Rattle.shared.proofs.Moves.{repass, reclaim-begins}
use Rattle.shared.proofs.locked.Locked.reclaim_start.Goals as goal

pub invariant_of-self : goal.invariant_of-self
invariant_of-self g c =
    let w = c.meet.ensures.writer in
    (reclaim-begins _ _ _ _ _ _ _ _ _ _ _ (repass _ _ _ _ _ _ _ _ _ _ _ c.self.invariant w.0 w.1 w.2 w.3 w.4) c.reclaim_start.ensures).0

pub returns-clause-happens : goal.returns-clause-happens
returns-clause-happens g c =
    subst (λ (s : Seen). ReclaimHappens g.L.Opening.start g.L.Opening.kind c.reclaim_start.result s) (sym c.meet.ensures.seen)
    (reclaim-begins _ _ _ _ _ _ _ _ _ _ _ c.self.invariant c.reclaim_start.ensures).1
