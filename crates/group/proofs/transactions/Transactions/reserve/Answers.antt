use Rattle.std.proofs.Common.{◌≡◌, ◌≤◌, ℕ, List, refl, arith, ap, sym, subst, ◌∙◌}
use Rattle.std.specs.List.{flat_map}
use Rattle.extents.specs.declared.usage.Usage.{Usage}
use Rattle.extents.specs.declared.usage.Usage.TheVariants.{Free, Out}
use Rattle.extents.specs.Usages.{with_usages, used_count, AreOut}
use Rattle.group.specs.Queued.{numbers_of}
use Rattle.group.specs.Values.{TransactionsValue}
use Rattle.group.specs.Submits.{free_count}
use Rattle.group.proofs.Publishing.{out-reserved}
use Rattle.group.proofs.Reclaiming.{keeps-reserved, reserves}
use Rattle.group.proofs.transactions.Transactions.reserve.Goals as goal

pub invariant_of-self-2 : goal.invariant_of-self-2
invariant_of-self-2 c =
    let i = c.self.inside in
    let v : TransactionsValue = record {
      mark = i.mark;
      opened = i.opened;
      heads = i.order.heads;
      published = i.order.published;
      versions = i.versions;
      pending = i.pending;
      queue = i.queue.items;
      usages = i.extents;
      times = i.times;
      reserved = i.reserved.items;
      slots = i.slots;
      used = i.used;
      group = i.group;
      stage = i.stage;
      floors = i.floors;
      reclaimed = i.reclaimed;
      failed = i.failed;
    } in
    let numbers = c.in-Ok.taken.items in
    let took = c.in-Ok.ensures in
    let both = out-reserved i.extents (flat_map numbers_of i.queue.items) i.reserved.items numbers c.self.invariant.out took.1 in
    let before_is : c.replace-before.result.items ≡ i.reserved.items = ap (λ o. o.items) c.replace-before.ensures.value in
    let reserved_is : c.replace-before.new.dest.items ≡ numbers = ap (λ o. o.items) c.replace-before.ensures.after in
    let out : AreOut c.take_extents.new.extents c.replace-before.result.items =
    subst (λ (us : List Usage). AreOut us c.replace-before.result.items) (sym took.2)
    (subst (λ (ns : List ℕ). AreOut (with_usages i.extents numbers Out) ns) (sym before_is) both.0) in
    let usages_are : c.give_back_all.new.extents ≡ with_usages (with_usages i.extents numbers Out) i.reserved.items Free =
    c.give_back_all.ensures out ∙ ap (λ (ns : List ℕ). with_usages c.take_extents.new.extents ns Free) before_is
    ∙ ap (λ (us : List Usage). with_usages us i.reserved.items Free) took.2 in
    rw (usages_are, reserved_is) (keeps-reserved v numbers c.self.invariant took.1)

pub returns-clause-is : goal.returns-clause-is
returns-clause-is c =
    let i = c.self.inside in
    let v : TransactionsValue = record {
      mark = i.mark;
      opened = i.opened;
      heads = i.order.heads;
      published = i.order.published;
      versions = i.versions;
      pending = i.pending;
      queue = i.queue.items;
      usages = i.extents;
      times = i.times;
      reserved = i.reserved.items;
      slots = i.slots;
      used = i.used;
      group = i.group;
      stage = i.stage;
      floors = i.floors;
      reclaimed = i.reclaimed;
      failed = i.failed;
    } in
    let numbers = c.in-Ok.taken.items in
    let took = c.in-Ok.ensures in
    let both = out-reserved i.extents (flat_map numbers_of i.queue.items) i.reserved.items numbers c.self.invariant.out took.1 in
    let before_is : c.replace-before.result.items ≡ i.reserved.items = ap (λ o. o.items) c.replace-before.ensures.value in
    let reserved_is : c.replace-before.new.dest.items ≡ numbers = ap (λ o. o.items) c.replace-before.ensures.after in
    let out : AreOut c.take_extents.new.extents c.replace-before.result.items =
    subst (λ (us : List Usage). AreOut us c.replace-before.result.items) (sym took.2)
    (subst (λ (ns : List ℕ). AreOut (with_usages i.extents numbers Out) ns) (sym before_is) both.0) in
    let usages_are : c.give_back_all.new.extents ≡ with_usages (with_usages i.extents numbers Out) i.reserved.items Free =
    c.give_back_all.ensures out ∙ ap (λ (ns : List ℕ). with_usages c.take_extents.new.extents ns Free) before_is
    ∙ ap (λ (us : List Usage). with_usages us i.reserved.items Free) took.2 in
    let room : c.args.count ≤ free_count v = (let free = c.free_count.ensures in let enough = c.if-free_count-count.false in omega (arith, free, enough)) in
    reserves v _ _ _ numbers c.self.view_is room took.1 took.0 (rw (usages_are, reserved_is) refl)
