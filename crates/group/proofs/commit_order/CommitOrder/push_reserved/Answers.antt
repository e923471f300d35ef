use Rattle.std.proofs.lemmas.Grind.{common_steps}
use Rattle.std.proofs.Common.{arith, ◌<◌, length-append, subst, sym}
use Rattle.group.specs.CommitOrder.{last_time, last_assigned, CommitOrderValue}
use Rattle.group.proofs.Heads.{IsRisingAfter-push}
use Rattle.group.proofs.commit_order.CommitOrder.push_reserved.Goals as goal

pub invariant_of-self : goal.invariant_of-self
invariant_of-self c =
    let later : last_time c.self.inside.heads.items < c.args.head.time =
    subst (λ (v : CommitOrderValue). last_assigned v < c.args.head.time) (sym c.self.view_is) c.requires.later in
    rw c.push_reserved.ensures.items record {
      within = simp length-append (omega (arith, c.self.invariant.within));
      rising = IsRisingAfter-push 0 _ _ c.self.invariant.rising later c.requires.in_range;
    }

pub returns : goal.returns
returns c = grind (arith, common_steps)
