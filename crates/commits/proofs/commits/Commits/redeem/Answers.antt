use Rattle.std.proofs.Common.{ℕ, max, arith, sym, subst}
use Rattle.commits.specs.Order.{AreBy}
use Rattle.group.proofs.Orders.{redeem_keeps}
use Rattle.commits.proofs.commits.Commits.redeem.Goals as goal

pub invariant_of-self : goal.invariant_of-self
invariant_of-self c =
    let same = redeem_keeps c.time-time.result c.self.inside.order in
    let inv = c.self.invariant in
    rw c.redeem.ensures.new record {
      split = omega (arith, same.many, same.published, inv.split);
      latest = subst (λ (n : ℕ). AreBy (max c.self.inside.reclaimed n) c.self.inside.versions c.self.inside.queue.items) (sym same.last) inv.latest;
      group_within = inv.group_within;
      group_few = inv.group_few;
      mark_in_range = inv.mark_in_range;
    }
