use Rattle.std.proofs.lemmas.Grind.{common_steps}
use Rattle.std.proofs.Common.{◌≤◌, ℕ, MatchOption, arith, sym, subst}
use Rattle.chains.specs.KeyWrites.{latest}
use Rattle.group.specs.Order.{AreBy}
use Rattle.group.proofs.Orders.{redeem_keeps}
use Rattle.group.proofs.transactions.Transactions.redeem.Goals as goal

pub invariant_of-self : goal.invariant_of-self
invariant_of-self c =
    let same = redeem_keeps c.time-time.result c.self.inside.order in
    let inv = c.self.invariant in
    rw c.redeem.ensures.new record {
      split = omega (arith, same.many, same.published, inv.split);
      latest = subst (λ (n : ℕ). AreBy n c.self.inside.versions c.self.inside.queue.items) (sym same.last) inv.latest;
      pending = subst (λ (n : ℕ). MatchOption c.self.inside.pending (Unit {0}) (λ versions. latest versions ≤ n)) (sym same.last) inv.pending;
      group_within = inv.group_within;
      group_few = inv.group_few;
      stage_fits = inv.stage_fits;
      stored = inv.stored;
      out = inv.out;
      room = inv.room;
      slots_few = inv.slots_few;
    }

pub returns-clause-is : goal.returns-clause-is
returns-clause-is c = grind (arith, common_steps)
