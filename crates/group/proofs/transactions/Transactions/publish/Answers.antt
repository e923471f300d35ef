use Rattle.std.proofs.lemmas.Grind.{common_steps}
use Rattle.std.proofs.Common.{◌≡◌, List, ◌++◌, drop, ap, sym, subst, arith}
use Rattle.std.specs.List.{flat_map}
use Rattle.extents.specs.declared.usage.Usage.{Usage}
use Rattle.extents.specs.Usages.{AreOut}
use Rattle.group.specs.Queued.{QueuedValue, numbers_of}
use Rattle.group.specs.Values.{TransactionsValue}
use Rattle.group.specs.Steps.{due, published}
use Rattle.group.specs.declared.stage.NextStep.TheVariants as steps
use Rattle.group.proofs.Kept.{keeps-published}
use Rattle.group.proofs.Publishing.{out-front}
use Rattle.group.proofs.transactions.Transactions.publish.Goals as goal

pub invariant_of-self : goal.invariant_of-self
invariant_of-self c =
    let i = c.self.inside in
    let v : TransactionsValue = record {
      mark = i.mark;
      opened = i.opened;
      heads = i.order.heads;
      published = i.order.published;
      versions = i.versions;
      pending = i.pending;
      queue = i.queue.items;
      usages = i.extents;
      times = i.times;
      reserved = i.reserved.items;
      slots = i.slots;
      used = i.used;
      group = i.group;
      stage = i.stage;
      floors = i.floors;
      reclaimed = i.reclaimed;
      failed = i.failed;
    } in
    let first = c.publish_first.ensures in
    let heads_are = ap (λ o. o.heads) c.publish.ensures in
    let published_is = ap (λ o. o.published) c.publish.ensures in
    let still = first.still_out v.reserved c.self.invariant.out in
    let out : AreOut (published v).usages (flat_map numbers_of c.publish_first.new.queue.items ++ v.reserved) =
    subst (λ (us : List Usage). AreOut us (flat_map numbers_of c.publish_first.new.queue.items ++ v.reserved)) first.extents still in
    let rest : AreOut (published v).usages (flat_map numbers_of (drop v.group v.queue) ++ v.reserved) =
    subst (λ (qs : List QueuedValue). AreOut (published v).usages (flat_map numbers_of qs ++ v.reserved)) first.queue out in
    rw (heads_are, published_is, first.versions, first.extents, first.times, first.queue)
    (keeps-published v c.self.invariant (subst (λ (w : TransactionsValue). due w ≡ steps.AdvanceSlot) (sym c.self.view_is) c.requires) rest)

pub publish_first-requires-clause-out : goal.publish_first-requires-clause-out
publish_first-requires-clause-out c = out-front _ _ c.self.inside.reserved.items c.self.invariant.out

pub returns-clause-count : goal.returns-clause-count
returns-clause-count c = grind (arith, common_steps)

pub returns-clause-new : goal.returns-clause-new
returns-clause-new c = grind (arith, common_steps)
