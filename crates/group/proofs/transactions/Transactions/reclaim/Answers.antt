use Rattle.std.proofs.Common.{◌≡◌, ℕ, List, [], Option, refl, ap, sym, subst, ◌∙◌}
use Rattle.chains.specs.KeyWrites.{KeyWrites}
use Rattle.extents.specs.declared.usage.Usage.{Usage}
use Rattle.extents.specs.declared.usage.Usage.TheVariants.{Out, Kept}
use Rattle.extents.specs.Usages.{IsOut, with_usages, AreOut}
use Rattle.extents.specs.Times.{with_times, all_retired_by}
use Rattle.group.specs.Values.{TransactionsValue}
use Rattle.group.specs.Reclaims.{reclaimed_to, versions_once}
use Rattle.group.proofs.Reclaiming.{keeps-reclaimed, reserved-out}
use Rattle.group.proofs.transactions.Transactions.reclaim.Goals as goal

pub invariant_of-self : goal.invariant_of-self
invariant_of-self c =
    let i = c.self.inside in
    let v : TransactionsValue = record {
      mark = i.mark;
      opened = i.opened;
      heads = i.order.heads;
      published = i.order.published;
      versions = i.versions;
      pending = i.pending;
      queue = i.queue.items;
      usages = i.extents;
      times = i.times;
      reserved = i.reserved.items;
      slots = i.slots;
      used = i.used;
      group = i.group;
      stage = i.stage;
      floors = i.floors;
      reclaimed = i.reclaimed;
      failed = i.failed;
    } in
    let mark = c.args.mark in
    let stays : (n : ℕ) → IsOut i.extents n → IsOut (all_retired_by mark i.times i.extents) n =
    λ n has. subst (λ (us : List Usage). IsOut us n) c.retire_by.ensures.is (c.retire_by.ensures.others Out n (λ e. cc) has) in
    let reserved_is : c.replace-reserved.result.items ≡ i.reserved.items = ap (λ o. o.items) c.replace-reserved.ensures.value in
    let none_is : c.replace-reserved.new.dest.items ≡ [] = ap (λ o. o.items) c.replace-reserved.ensures.after ∙ c.new.ensures.items in
    let out : AreOut c.retire_by.new.self c.replace-reserved.result.items =
    subst (λ (us : List Usage). AreOut us c.replace-reserved.result.items) (sym c.retire_by.ensures.is)
    (subst (λ (ns : List ℕ). AreOut (all_retired_by mark i.times i.extents) ns) (sym reserved_is) (reserved-out v mark c.self.invariant stays)) in
    let usages_are : c.keep_taken.new.extents ≡ with_usages (all_retired_by mark i.times i.extents) i.reserved.items Kept =
    c.keep_taken.ensures out ∙ ap (λ (ns : List ℕ). with_usages c.retire_by.new.self ns Kept) reserved_is
    ∙ ap (λ (us : List Usage). with_usages us i.reserved.items Kept) c.retire_by.ensures.is in
    let times_are : c.set_anchors.new.times ≡ with_times i.times i.reserved.items 0 =
    c.set_anchors.ensures ∙ ap (λ (ns : List ℕ). with_times i.times ns 0) (c.deref.ensures.value ∙ reserved_is) in
    let versions_are : c.put_versions.new.versions ≡ versions_once i.pending i.versions =
    c.put_versions.ensures ∙ ap (λ (o : Option (List KeyWrites)). versions_once o i.versions) c.replace-pending.ensures.value in
    rw (usages_are, times_are, versions_are, none_is, c.replace-pending.ensures.after) (keeps-reclaimed v mark c.self.invariant stays)

pub returns-clause-is : goal.returns-clause-is
returns-clause-is c =
    let i = c.self.inside in
    let v : TransactionsValue = record {
      mark = i.mark;
      opened = i.opened;
      heads = i.order.heads;
      published = i.order.published;
      versions = i.versions;
      pending = i.pending;
      queue = i.queue.items;
      usages = i.extents;
      times = i.times;
      reserved = i.reserved.items;
      slots = i.slots;
      used = i.used;
      group = i.group;
      stage = i.stage;
      floors = i.floors;
      reclaimed = i.reclaimed;
      failed = i.failed;
    } in
    let mark = c.args.mark in
    let stays : (n : ℕ) → IsOut i.extents n → IsOut (all_retired_by mark i.times i.extents) n =
    λ n has. subst (λ (us : List Usage). IsOut us n) c.retire_by.ensures.is (c.retire_by.ensures.others Out n (λ e. cc) has) in
    let reserved_is : c.replace-reserved.result.items ≡ i.reserved.items = ap (λ o. o.items) c.replace-reserved.ensures.value in
    let none_is : c.replace-reserved.new.dest.items ≡ [] = ap (λ o. o.items) c.replace-reserved.ensures.after ∙ c.new.ensures.items in
    let out : AreOut c.retire_by.new.self c.replace-reserved.result.items =
    subst (λ (us : List Usage). AreOut us c.replace-reserved.result.items) (sym c.retire_by.ensures.is)
    (subst (λ (ns : List ℕ). AreOut (all_retired_by mark i.times i.extents) ns) (sym reserved_is) (reserved-out v mark c.self.invariant stays)) in
    let usages_are : c.keep_taken.new.extents ≡ with_usages (all_retired_by mark i.times i.extents) i.reserved.items Kept =
    c.keep_taken.ensures out ∙ ap (λ (ns : List ℕ). with_usages c.retire_by.new.self ns Kept) reserved_is
    ∙ ap (λ (us : List Usage). with_usages us i.reserved.items Kept) c.retire_by.ensures.is in
    let times_are : c.set_anchors.new.times ≡ with_times i.times i.reserved.items 0 =
    c.set_anchors.ensures ∙ ap (λ (ns : List ℕ). with_times i.times ns 0) (c.deref.ensures.value ∙ reserved_is) in
    let versions_are : c.put_versions.new.versions ≡ versions_once i.pending i.versions =
    c.put_versions.ensures ∙ ap (λ (o : Option (List KeyWrites)). versions_once o i.versions) c.replace-pending.ensures.value in
    rw (usages_are, times_are, versions_are, none_is, c.replace-pending.ensures.after) (ap (λ (w : TransactionsValue). reclaimed_to w mark) c.self.view_is)
