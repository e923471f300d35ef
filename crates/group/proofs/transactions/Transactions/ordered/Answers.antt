use Rattle.std.proofs.Common.{◌≤◌, List, refl, ap, ◌∙◌, arith, sym, subst}
use Rattle.chains.specs.KeyWrites.{KeyWrites, latest}
use Rattle.group.specs.CommitOrder.{last_time}
use Rattle.group.proofs.Kept.{by-last}
use Rattle.group.specs.Values.{TransactionsValue, ordered}
use Rattle.group.proofs.Orders.{versions_after-last}
use Rattle.group.proofs.transactions.Transactions.ordered.Goals as goal

pub returns-in-Some-clause-is : goal.returns-in-Some-clause-is
returns-in-Some-clause-is c =
    let items = c.self.inside.queue.items in
    c.after.ensures ∙ versions_after-last c.self.inside.versions items _ c.in-Some.queued.now
    (let some = c.in-Some.ensures.variant.0 refl in omega (arith, some, c.self.inside.queue.ok.0)) c.in-Some.ensures.lookup
    ∙ ap (λ (v : TransactionsValue). ordered v) c.self.view_is

pub returns-in-Some-clause-upto : goal.returns-in-Some-clause-upto
returns-in-Some-clause-upto c =
    let items = c.self.inside.queue.items in
    let is = c.after.ensures ∙ versions_after-last c.self.inside.versions items _ c.in-Some.queued.now
    (let some = c.in-Some.ensures.variant.0 refl in omega (arith, some, c.self.inside.queue.ok.0)) c.in-Some.ensures.lookup in
    subst (λ (w : TransactionsValue). latest c.after.result.now ≤ last_time w.heads) c.self.view_is
    (subst (λ (m : List KeyWrites). latest m ≤ last_time c.self.inside.order.heads) (sym is)
    (by-last (last_time c.self.inside.order.heads) c.self.inside.versions items c.self.invariant.latest))
