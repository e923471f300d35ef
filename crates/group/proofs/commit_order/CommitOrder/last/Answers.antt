use Rattle.std.proofs.Common.{take, arith, ap, sym, ◌∙◌}
use Rattle.group.specs.declared.commit_order.CommitHead.{CommitHead}
use Rattle.group.specs.CommitOrder.{last_published, CommitOrderValue}
use Rattle.group.proofs.Heads.{last_time-take, last_time-range, IsRisingAfter-take}
use Rattle.group.proofs.commit_order.CommitOrder.last.Goals as goal

pub returns-clause-is : goal.returns-clause-is
returns-clause-is c =
    let items = c.self.inside.heads.items in
    ap (λ (h : CommitHead). h.time) c.index.ensures
    ∙ sym (last_time-take items c.self.inside.published c.index.result.now (omega arith) c.self.invariant.within)
    ∙ ap (λ (v : CommitOrderValue). last_published v) c.self.view_is

pub returns-clause-in_range : goal.returns-clause-in_range
returns-clause-in_range c =
    let items = c.self.inside.heads.items in
    let n = c.self.inside.published in
    let is = ap (λ (h : CommitHead). h.time) c.index.ensures ∙ sym (last_time-take items n c.index.result.now (omega arith) c.self.invariant.within) in
    rw is (last_time-range 0 (take n items) (omega arith) (IsRisingAfter-take 0 items n c.self.invariant.rising))
