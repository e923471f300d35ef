use Rattle.std.proofs.Common.{refl, ap, ◌∙◌, arith}
use Rattle.group.specs.Values.{TransactionsValue, ordered_mark}
use Rattle.group.proofs.Orders.{mark_after-last}
use Rattle.group.proofs.transactions.Transactions.ordered_mark.Goals as goal

pub returns-in-Some : goal.returns-in-Some
returns-in-Some c =
    let items = c.self.inside.queue.items in
    c.reclaimed.ensures ∙ mark_after-last c.self.inside.reclaimed items _ c.in-Some.queued.now
    (let some = c.in-Some.ensures.variant.0 refl in omega (arith, some, c.self.inside.queue.ok.0)) c.in-Some.ensures.lookup
    ∙ ap (λ (v : TransactionsValue). ordered_mark v) c.self.view_is
