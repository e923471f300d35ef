use Rattle.std.proofs.lemmas.Grind.{common_steps}
use Rattle.std.proofs.Common.{◌≡◌, ◌≤◌, ◌-◌, ℕ, nat_lt, true, List, slice_get, slice_set, Some, refl, arith, ap, sym, subst, ◌∙◌}
use Rattle.std.proofs.lemmas.Bool.Decides.{nat_tests}
use Rattle.chains.specs.KeyWrites.{KeyWrites, latest, forgotten}
use Rattle.group.specs.Queued.{QueuedValue}
use Rattle.group.specs.Values.{TransactionsValue}
use Rattle.group.specs.Steps.{freshened, fresh_at}
use Rattle.group.proofs.Reclaiming.{keeps-fresh, fresh-is}
use Rattle.group.proofs.transactions.Transactions.freshen.Goals as goal

pub invariant_of-self : goal.invariant_of-self
invariant_of-self c =
    let i = c.self.inside in
    let v : TransactionsValue = record {
      mark = i.mark;
      opened = i.opened;
      heads = i.order.heads;
      published = i.order.published;
      versions = i.versions;
      pending = i.pending;
      queue = i.queue.items;
      usages = i.extents;
      times = i.times;
      reserved = i.reserved.items;
      slots = i.slots;
      used = i.used;
      group = i.group;
      stage = i.stage;
      floors = i.floors;
      reclaimed = i.reclaimed;
      failed = i.failed;
    } in
    let q = c.in-Some.queued.now in
    let found : slice_get i.queue.items c.saturating_sub-place.result ≡ Some q = sym c.in-Some.ensures in
    let queue_is = c.put_versions.ensures q found in
    let le : latest c.in-Ok.after ≤ latest q.after =
    (let low = c.in-Ok.ensures.latest in let same = ap (λ (m : List KeyWrites). latest m) c.after.ensures in omega (arith, low, same)) in
    rw queue_is (keeps-fresh c.in-Ok.after i.reclaimed v c.saturating_sub-place.result q c.self.invariant found le)

pub returns-clause-ok : goal.returns-clause-ok
returns-clause-ok c =
    let i = c.self.inside in
    let v : TransactionsValue = record {
      mark = i.mark;
      opened = i.opened;
      heads = i.order.heads;
      published = i.order.published;
      versions = i.versions;
      pending = i.pending;
      queue = i.queue.items;
      usages = i.extents;
      times = i.times;
      reserved = i.reserved.items;
      slots = i.slots;
      used = i.used;
      group = i.group;
      stage = i.stage;
      floors = i.floors;
      reclaimed = i.reclaimed;
      failed = i.failed;
    } in
    let q = c.in-Some.queued.now in
    let place = c.saturating_sub-place.result in
    let found : slice_get i.queue.items place ≡ Some q = sym c.in-Some.ensures in
    let after_is : c.in-Ok.after ≡ forgotten i.reclaimed q.after = c.in-Ok.ensures.is ∙ ap (λ (m : List KeyWrites). forgotten i.reclaimed m) c.after.ensures in
    let stale : nat_lt q.reclaimed i.reclaimed ≡ true = (let low = c.if-reclaimed-mark.false in let same = c.reclaimed.ensures in grind (arith, nat_tests)) in
    let queue_is : c.put_versions.new.queue.items ≡ fresh_at i.reclaimed place i.queue.items (slice_get i.queue.items place) =
    c.put_versions.ensures q found ∙ ap (λ (m : List KeyWrites). slice_set i.queue.items place (record q { after = m; reclaimed = i.reclaimed })) after_is
    ∙ sym (fresh-is i.reclaimed place i.queue.items q found stale) in
    let place_is : place ≡ i.group - 1 = omega (arith, c.saturating_sub-place.ensures) in
    let at : c.put_versions.new.queue.items ≡ fresh_at i.reclaimed (i.group - 1) i.queue.items (slice_get i.queue.items (i.group - 1)) =
    queue_is ∙ ap (λ (n : ℕ). fresh_at i.reclaimed n i.queue.items (slice_get i.queue.items n)) place_is in
    rw at (ap (λ (w : TransactionsValue). freshened w) c.self.view_is)

pub returns-then-reclaimed-mark-clause-ok : goal.returns-then-reclaimed-mark-clause-ok
returns-then-reclaimed-mark-clause-ok c = grind (arith, common_steps)

pub returns-in_default-forget-clause-err : goal.returns-in_default-forget-clause-err
returns-in_default-forget-clause-err c = grind (arith, common_steps)
