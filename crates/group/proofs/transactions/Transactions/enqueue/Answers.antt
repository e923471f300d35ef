use Rattle.std.proofs.Common.{◌≡◌, ◌≤◌, ◌<◌, ◌++◌, ℕ, List, [], ◌∷◌, map, length, arith, true, refl, ap, sym, subst, ◌∙◌}
use Rattle.deltas.specs.Extents.{extent_bytes}
use Rattle.chains.specs.KeyWrites.{KeyWrites, latest, with_commit}
use Rattle.group.specs.CommitOrder.{last_time}
use Rattle.group.specs.Queued.{QueuedValue, stored_as}
use Rattle.deltas.specs.Chains.{chain_of, first_number}
use Rattle.group.specs.declared.queued.StoredExtent.{StoredExtent}
use Rattle.group.specs.declared.commit_order.CommitHead.{CommitHead}
use Rattle.group.proofs.Sealed.{length-sealed}
use Rattle.group.specs.Values.{TransactionsValue, ordered, ordered_mark, spare}
use Rattle.group.specs.Submits.{bodies_for, queued_as}
use Rattle.group.proofs.Queueing.{keeps-queued, queued-is}
use Rattle.group.proofs.Publishing.{numbers-stored}
use Rattle.group.proofs.transactions.Transactions.enqueue.Goals as goal

pub invariant_of-self-2 : goal.invariant_of-self-2
invariant_of-self-2 c =
    let i = c.self.inside in
    let v : TransactionsValue = record {
      mark = i.mark;
      opened = i.opened;
      heads = i.order.heads;
      published = i.order.published;
      versions = i.versions;
      pending = i.pending;
      queue = i.queue.items;
      usages = i.extents;
      times = i.times;
      reserved = i.reserved.items;
      slots = i.slots;
      used = i.used;
      group = i.group;
      stage = i.stage;
      floors = i.floors;
      reclaimed = i.reclaimed;
      failed = i.failed;
    } in
    let time = c.args.accepted.time in
    let writes = c.args.writes.now in
    let its = c.in-Ok.ensures.ok in
    let numbers = its.numbers in
    let packed : c.args.accepted.bodies.items ≡ bodies_for v writes =
    c.requires.bodies ∙ ap (λ (w : TransactionsValue). bodies_for w writes) (sym c.self.view_is) in
    let many : length numbers ≡ length (bodies_for v writes) = its.many ∙ ap (λ (bs : List (List ℕ)). length bs) packed in
    let sealed : length (map extent_bytes (chain_of numbers (bodies_for v writes))) ≡ length numbers = length-sealed numbers (bodies_for v writes) (sym many) in
    let stored_is : c.in-Ok.stored.items ≡ stored_as numbers (map extent_bytes (chain_of numbers (bodies_for v writes))) =
    its.stored_is ∙ ap (λ (bs : List (List ℕ)). stored_as numbers (map extent_bytes (chain_of numbers bs))) packed in
    let after_is : c.in_ok-after.after ≡ with_commit (ordered v) time writes =
    c.in_ok-after.ensures.is ∙ ap (λ (m : List KeyWrites). with_commit m time writes)
    (c.ordered.ensures.is ∙ ap (λ (w : TransactionsValue). ordered w) (sym c.self.view_is)) in
    let first_is : c.first_number.result ≡ first_number numbers =
    c.first_number.ensures ∙ ap (λ (ss : List StoredExtent). first_number (map (λ s. s.extent) ss)) (c.deref.ensures.value ∙ stored_is)
    ∙ ap first_number (numbers-stored numbers _ sealed) in
    let extents_is : c.len-extents.result ≡ length numbers = omega (arith, c.len-extents.ensures, c.args.accepted.bodies.ok.0, its.many) in
    let mark_is : c.ordered_mark-reclaimed.result ≡ ordered_mark v =
    c.ordered_mark-reclaimed.ensures ∙ ap (λ (w : TransactionsValue). ordered_mark w) (sym c.self.view_is) in
    let q_is : c.new-queued.result ≡ queued_as v c.args.label time writes numbers =
    c.new-queued.ensures ∙ queued-is v c.args.label time _ _ _ _ _ _ writes numbers first_is extents_is refl after_is mark_is stored_is in
    let later : last_time v.heads ≤ time =
    (let low = c.requires.later in let heads_same = ap (λ (w : TransactionsValue). last_time w.heads) c.self.view_is in omega (arith, low, heads_same)) in
    let head : CommitHead = record { time = time; label = c.args.label; awaited = true } in
    let same = c.reserve-else-is_err.ensures.same in
    let queue_is : c.push_back_reserved.new.self.items ≡ v.queue ++ queued_as v c.args.label time writes numbers ∷ [] =
    c.push_back_reserved.ensures.items ∙ ap (λ (xs : List QueuedValue). xs ++ c.new-queued.result ∷ []) c.reserve.ensures.items
    ∙ ap (λ (q : QueuedValue). v.queue ++ q ∷ []) q_is in
    let heads_are : c.push_reserved.new.self.heads ≡ v.heads ++ head ∷ [] =
    ap (λ o. o.heads) c.push_reserved.ensures ∙ ap (λ (xs : List CommitHead). xs ++ head ∷ []) same.heads in
    let published_is : c.push_reserved.new.self.published ≡ v.published = ap (λ o. o.published) c.push_reserved.ensures ∙ same.published in
    let early : latest (with_commit (ordered v) time writes) ≤ time = subst (λ (m : List KeyWrites). latest m ≤ time) after_is c.in_ok-after.ensures.latest in
    let room : 2 < spare v = subst (λ (w : TransactionsValue). 2 < spare w) (sym c.self.view_is) c.requires.slots in
    rw (queue_is, heads_are, published_is, its.new_is) (keeps-queued v c.args.label time writes numbers c.self.invariant its.least many c.requires.some early
    later room)
