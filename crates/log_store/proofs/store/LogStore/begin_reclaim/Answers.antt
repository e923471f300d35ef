use Rattle.std.proofs.Common.{◌≡◌, ◌+◌, ◌≤◌, ◌++◌, ℕ, cond, List, [], length, drop, Some, ap, sym, subst, ◌∙◌, arith, rules}
use Rattle.std.proofs.lemmas.List.{take_rest}
use Rattle.log_extents.specs.Chains.{count_of}
use Rattle.log_recovery.specs.Live.{LiveChainValue}
use Rattle.log_room.specs.Reserves.{Reserves}
use Rattle.log_store.specs.Live.{live_value}
use Rattle.log_store.specs.Reclaims.{head_or, IsPlanOf, IsReclaimBegun}
use Rattle.log_store.specs.Values.{LogStoreValue}
use Rattle.log_store.proofs.Beginning.{plan-within, begun_as, begins, begun_in_step}
use Rattle.log_store.proofs.store.LogStore.begin_reclaim.Goals as goal

pub offset_bounds-chains-plan : goal.offset_bounds-chains-plan
offset_bounds-chains-plan g c =
    let old : LogStoreValue = record {
      roots = c.self.inside.roots;
      commits = c.self.inside.commits;
      contents = c.self.inside.contents.items;
      room = c.self.inside.room;
      live = live_value c.self.inside.live;
      turn = c.self.inside.turn;
      job = c.self.inside.job;
      reclaim = c.self.inside.reclaim;
      named = c.self.inside.named;
      archive = c.self.inside.archive;
      disk = g.D.Disk.state c.self.inside.disk;
    } in
    let is : IsPlanOf old c.args.plan = subst (λ (v : LogStoreValue). IsPlanOf v c.args.plan) (sym c.self.view_is) c.requires.plan in
    let within : c.args.plan.front ≤ length c.chains.result.now =
    subst (λ (chains : List LiveChainValue). c.args.plan.front ≤ length chains) (sym c.chains.ensures) (plan-within old c.args.plan is) in
    search rules

pub slice_bounds-head_or-count : goal.slice_bounds-head_or-count
slice_bounds-head_or-count g c =
    let old : LogStoreValue = record {
      roots = c.self.inside.roots;
      commits = c.self.inside.commits;
      contents = c.self.inside.contents.items;
      room = c.self.inside.room;
      live = live_value c.self.inside.live;
      turn = c.self.inside.turn;
      job = c.self.inside.job;
      reclaim = c.self.inside.reclaim;
      named = c.self.inside.named;
      archive = c.self.inside.archive;
      disk = g.D.Disk.state c.self.inside.disk;
    } in
    let is : IsPlanOf old c.args.plan = subst (λ (v : LogStoreValue). IsPlanOf v c.args.plan) (sym c.self.view_is) c.requires.plan in
    let within : c.args.plan.front ≤ length c.chains.result.now =
    subst (λ (chains : List LiveChainValue). c.args.plan.front ≤ length chains) (sym c.chains.ensures) (plan-within old c.args.plan is) in
    within

pub slice_bounds-head_or-start : goal.slice_bounds-head_or-start
slice_bounds-head_or-start g c =
    let old : LogStoreValue = record {
      roots = c.self.inside.roots;
      commits = c.self.inside.commits;
      contents = c.self.inside.contents.items;
      room = c.self.inside.room;
      live = live_value c.self.inside.live;
      turn = c.self.inside.turn;
      job = c.self.inside.job;
      reclaim = c.self.inside.reclaim;
      named = c.self.inside.named;
      archive = c.self.inside.archive;
      disk = g.D.Disk.state c.self.inside.disk;
    } in
    let is : IsPlanOf old c.args.plan = subst (λ (v : LogStoreValue). IsPlanOf v c.args.plan) (sym c.self.view_is) c.requires.plan in
    let within : c.args.plan.front ≤ length c.chains.result.now =
    subst (λ (chains : List LiveChainValue). c.args.plan.front ≤ length chains) (sym c.chains.ensures) (plan-within old c.args.plan is) in
    within

pub invariant_of-self-2 : goal.invariant_of-self-2
invariant_of-self-2 g c =
    let old : LogStoreValue = record {
      roots = c.self.inside.roots;
      commits = c.self.inside.commits;
      contents = c.self.inside.contents.items;
      room = c.self.inside.room;
      live = live_value c.self.inside.live;
      turn = c.self.inside.turn;
      job = c.self.inside.job;
      reclaim = c.self.inside.reclaim;
      named = c.self.inside.named;
      archive = c.self.inside.archive;
      disk = g.D.Disk.state c.self.inside.disk;
    } in
    let is : IsPlanOf old c.args.plan = subst (λ (v : LogStoreValue). IsPlanOf v c.args.plan) (sym c.self.view_is) c.requires.plan in
    let anchors_len : c.len.result ≡ length c.args.plan.anchors.items = let same = c.args.plan.anchors.ok.0 in omega (arith, same, c.len.ensures) in
    let bytes_len : c.len-2.result ≡ length c.args.plan.bytes.items = let same = c.args.plan.bytes.ok.0 in omega (arith, same, c.len-2.ensures) in
    let made_is : c.count_extents-made.result ≡ count_of (length c.args.plan.anchors.items) = c.count_extents-made.ensures ∙ ap count_of anchors_len in
    let count_is : c.count_extents-count.result ≡ count_of (length c.args.plan.bytes.items) = c.count_extents-count.ensures ∙ ap count_of bytes_len in
    let made = c.in_ok-taken.taken.anchors.items in
    let numbers = c.in_ok-taken.taken.base.items in
    let room = c.reserve.new.self in
    let link = c.head_or-link.result in
    let reserves : Reserves old.room (count_of (length c.args.plan.anchors.items) + count_of (length c.args.plan.bytes.items)) (made ++ numbers) room =
    subst (λ (n : ℕ). Reserves old.room n (made ++ numbers) room) (λ i. made_is i + count_is i) c.in_ok-taken.ensures.ok in
    let link_is : link ≡ head_or old.room.next (drop c.args.plan.front old.live.chains) =
    c.head_or-link.ensures ∙ ap (λ (chains : List LiveChainValue). head_or c.next.result chains) (take_rest c.chains.result.now c.args.plan.front)
    ∙ (λ i. head_or (c.next.ensures i) (drop c.args.plan.front (c.chains.ensures i))) in
    let place_is : c.in_ok-anchors.anchors.items ≡ cond c.args.plan.makes [] old.live.anchors =
    c.in_ok-anchors.ensures.items ∙ ap (λ (v : LogStoreValue). cond c.args.plan.makes [] v.live.anchors) (sym c.self.view_is) in
    let r_is : c.begun.result ≡ begun_as c.args.plan old.named.end link (c.in_ok-anchors.anchors.items ++ made) made numbers =
    c.begun.ensures ∙ ap (λ (n : ℕ). begun_as c.args.plan n link (c.in_ok-anchors.anchors.items ++ made) made numbers) c.end-start.ensures in
    begun_in_step old c.args.plan c.in_ok-anchors.anchors.items made numbers room link c.begun.result is
    (c.in_ok-taken.ensures.many.0 ∙ made_is) (c.in_ok-taken.ensures.many.1 ∙ count_is) reserves link_is place_is r_is c.self.invariant
    (ap (λ (v : LogStoreValue). v.job) c.self.view_is ∙ c.requires.none.0) c.in_ok-taken.ensures.in_range.0 c.in_ok-taken.ensures.in_range.1

pub returns-clause-ok : goal.returns-clause-ok
returns-clause-ok g c =
    let old : LogStoreValue = record {
      roots = c.self.inside.roots;
      commits = c.self.inside.commits;
      contents = c.self.inside.contents.items;
      room = c.self.inside.room;
      live = live_value c.self.inside.live;
      turn = c.self.inside.turn;
      job = c.self.inside.job;
      reclaim = c.self.inside.reclaim;
      named = c.self.inside.named;
      archive = c.self.inside.archive;
      disk = g.D.Disk.state c.self.inside.disk;
    } in
    let is : IsPlanOf old c.args.plan = subst (λ (v : LogStoreValue). IsPlanOf v c.args.plan) (sym c.self.view_is) c.requires.plan in
    let anchors_len : c.len.result ≡ length c.args.plan.anchors.items = let same = c.args.plan.anchors.ok.0 in omega (arith, same, c.len.ensures) in
    let bytes_len : c.len-2.result ≡ length c.args.plan.bytes.items = let same = c.args.plan.bytes.ok.0 in omega (arith, same, c.len-2.ensures) in
    let made_is : c.count_extents-made.result ≡ count_of (length c.args.plan.anchors.items) = c.count_extents-made.ensures ∙ ap count_of anchors_len in
    let count_is : c.count_extents-count.result ≡ count_of (length c.args.plan.bytes.items) = c.count_extents-count.ensures ∙ ap count_of bytes_len in
    let made = c.in_ok-taken.taken.anchors.items in
    let numbers = c.in_ok-taken.taken.base.items in
    let room = c.reserve.new.self in
    let link = c.head_or-link.result in
    let reserves : Reserves old.room (count_of (length c.args.plan.anchors.items) + count_of (length c.args.plan.bytes.items)) (made ++ numbers) room =
    subst (λ (n : ℕ). Reserves old.room n (made ++ numbers) room) (λ i. made_is i + count_is i) c.in_ok-taken.ensures.ok in
    let link_is : link ≡ head_or old.room.next (drop c.args.plan.front old.live.chains) =
    c.head_or-link.ensures ∙ ap (λ (chains : List LiveChainValue). head_or c.next.result chains) (take_rest c.chains.result.now c.args.plan.front)
    ∙ (λ i. head_or (c.next.ensures i) (drop c.args.plan.front (c.chains.ensures i))) in
    let place_is : c.in_ok-anchors.anchors.items ≡ cond c.args.plan.makes [] old.live.anchors =
    c.in_ok-anchors.ensures.items ∙ ap (λ (v : LogStoreValue). cond c.args.plan.makes [] v.live.anchors) (sym c.self.view_is) in
    let r_is : c.begun.result ≡ begun_as c.args.plan old.named.end link (c.in_ok-anchors.anchors.items ++ made) made numbers =
    c.begun.ensures ∙ ap (λ (n : ℕ). begun_as c.args.plan n link (c.in_ok-anchors.anchors.items ++ made) made numbers) c.end-start.ensures in
    subst (λ (v : LogStoreValue). IsReclaimBegun v (record old { room = room; reclaim = Some c.begun.result })) c.self.view_is
    (begins old c.args.plan c.in_ok-anchors.anchors.items made numbers room link c.begun.result is
    (c.in_ok-taken.ensures.many.0 ∙ made_is) (c.in_ok-taken.ensures.many.1 ∙ count_is) reserves link_is place_is r_is)
