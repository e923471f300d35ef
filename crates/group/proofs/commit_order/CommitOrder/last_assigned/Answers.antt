use Rattle.std.proofs.Common.{arith, ap, sym, ◌∙◌}
use Rattle.group.specs.declared.commit_order.CommitHead.{CommitHead}
use Rattle.group.specs.CommitOrder.{last_assigned, CommitOrderValue}
use Rattle.group.proofs.Heads.{last_time-all, last_time-range}
use Rattle.group.proofs.commit_order.CommitOrder.last_assigned.Goals as goal

pub returns-clause-is : goal.returns-clause-is
returns-clause-is c =
    let items = c.self.inside.heads.items in
    ap (λ (h : CommitHead). h.time) c.index.ensures
    ∙ sym (last_time-all items c.len-count.result c.index.result.now (omega arith) (omega (arith, c.self.inside.heads.ok.0)))
    ∙ ap (λ (v : CommitOrderValue). last_assigned v) c.self.view_is

pub returns-clause-in_range : goal.returns-clause-in_range
returns-clause-in_range c =
    let items = c.self.inside.heads.items in
    let is = ap (λ (h : CommitHead). h.time) c.index.ensures
    ∙ sym (last_time-all items c.len-count.result c.index.result.now (omega arith) (omega (arith, c.self.inside.heads.ok.0))) in
    rw is (last_time-range 0 items (omega arith) c.self.invariant.rising)
