use Rattle.std.proofs.Common.{subst, sym}
use Rattle.shared.specs.Seen.{Seen}
use Rattle.shared.specs.Shared.{GrowthHappens}
use Rattle.shared.proofs.Moves.{repass, growth-begins}
use Rattle.shared.proofs.locked.Locked.grow_start.Goals as goal

pub invariant_of-self : goal.invariant_of-self
invariant_of-self g c =
    let w = c.meet.ensures.writer in
    (growth-begins _ _ _ _ _ _ _ _ _ _ _ (repass _ _ _ _ _ _ _ _ _ _ _ c.self.invariant w.0 w.1 w.2 w.3 w.4) c.grow_start.ensures).0

pub returns-clause-happens : goal.returns-clause-happens
returns-clause-happens g c =
    subst (λ (s : Seen). GrowthHappens g.L.Opening.start c.grow_start.result s) (sym c.meet.ensures.seen)
    (growth-begins _ _ _ _ _ _ _ _ _ _ _ c.self.invariant c.grow_start.ensures).1
