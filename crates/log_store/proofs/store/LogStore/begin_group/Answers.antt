use Rattle.std.proofs.Common.{◌∙◌, ◌≡◌, sym, ap, subst, arith, ℕ, ◌<◌, length, List, take, min, None, Some}
use Rattle.log_extents.specs.Chains.{count_of}
use Rattle.log_room.specs.Contents.{joined}
use Rattle.log_room.proofs.Joins.{extents_within, count_within, some_count}
use Rattle.log_recovery.specs.declared.live.LivePart.TheVariants.{Commits}
use Rattle.log_store.specs.Live.{live_value, with_live}
use Rattle.log_store.specs.Values.{LogStoreValue}
use Rattle.log_store.specs.Pumps.{group_size, bars_groups, Begins}
use Rattle.log_store.proofs.InStep.{some_joined, size_some, all_wait, begun_in_step, begins_with}
use Rattle.log_store.proofs.store.LogStore.begin_group.Goals as goal

pub join-requires-clause-few : goal.join-requires-clause-few
join-requires-clause-few g c = omega (arith, c.self.invariant.promised, c.self.invariant.few)

pub take_chain-requires-clause-some : goal.take_chain-requires-clause-some
take_chain-requires-clause-some g c =
    let old : LogStoreValue = record {
      roots = c.self.inside.roots;
      commits = c.self.inside.commits;
      contents = c.self.inside.contents.items;
      room = c.self.inside.room;
      live = live_value c.self.inside.live;
      turn = c.self.inside.turn;
      job = c.self.inside.job;
      reclaim = c.self.inside.reclaim;
      named = c.self.inside.named;
      archive = c.self.inside.archive;
      disk = g.D.Disk.state c.self.inside.disk;
    } in
    let some : 0 < length old.commits.queue = subst (λ (v : LogStoreValue). 0 < length v.commits.queue) (sym c.self.view_is) c.requires.some in
    let waits = all_wait old c.self.invariant (ap (λ (v : LogStoreValue). v.turn) c.self.view_is ∙ c.requires.none) in
    let size : c.min-size.result ≡ group_size old = c.min-size.ensures ∙ ap (λ (n : ℕ). min 1024 n) c.waiting.ensures in
    let bytes = some_joined old.contents c.min-size.result (subst (λ (n : ℕ). 0 < n) (sym size) (size_some (length old.commits.queue) some))
    (omega (arith, waits.1, some)) c.self.invariant.bytes in
    subst (λ (n : ℕ). 0 < n)
    (sym (c.count_extents-count.ensures ∙ ap count_of (c.len.ensures ∙ (let same = c.in_ok-group.group.bytes.ok.0 in omega (arith, same))
    ∙ ap (λ (xs : List ℕ). length xs) c.in_ok-group.ensures.bytes)))
    (some_count (length (joined (take c.min-size.result old.contents))) bytes)

pub take_chain-requires-clause-within : goal.take_chain-requires-clause-within
take_chain-requires-clause-within g c =
    let contents = c.self.inside.contents.items in
    let within = count_within (take c.min-size.result contents) in
    let count : c.count_extents-count.result ≡ count_of (length (joined (take c.min-size.result contents))) =
    c.count_extents-count.ensures ∙ ap count_of (c.len.ensures ∙ (let same = c.in_ok-group.group.bytes.ok.0 in omega (arith, same))
    ∙ ap (λ (xs : List ℕ). length xs) c.in_ok-group.ensures.bytes) in
    omega (arith, within, count, c.in_ok-group.ensures.count)

pub take_chain-requires-clause-promised : goal.take_chain-requires-clause-promised
take_chain-requires-clause-promised g c =
    let contents = c.self.inside.contents.items in
    let within = extents_within contents c.min-size.result in
    omega (arith, within, c.in_ok-group.ensures.count, c.self.invariant.promised)

pub invariant_of-self-2 : goal.invariant_of-self-2
unfolding begins_with
invariant_of-self-2 g c =
    let old : LogStoreValue = record {
      roots = c.self.inside.roots;
      commits = c.self.inside.commits;
      contents = c.self.inside.contents.items;
      room = c.self.inside.room;
      live = live_value c.self.inside.live;
      turn = c.self.inside.turn;
      job = c.self.inside.job;
      reclaim = c.self.inside.reclaim;
      named = c.self.inside.named;
      archive = c.self.inside.archive;
      disk = g.D.Disk.state c.self.inside.disk;
    } in
    let none : old.turn ≡ None = ap (λ (v : LogStoreValue). v.turn) c.self.view_is ∙ c.requires.none in
    let some : 0 < length old.commits.queue = subst (λ (v : LogStoreValue). 0 < length v.commits.queue) (sym c.self.view_is) c.requires.some in
    let size : c.min-size.result ≡ group_size old = c.min-size.ensures ∙ ap (λ (n : ℕ). min 1024 n) c.waiting.ensures in
    let count : c.count_extents-count.result ≡ count_of (length c.in_ok-group.group.bytes.items) =
    c.count_extents-count.ensures ∙ ap count_of (c.len.ensures ∙ (let same = c.in_ok-group.group.bytes.ok.0 in omega (arith, same))) in
    let lives : live_value c.put.new.self ≡ with_live old.live c.in_ok-chain.chain.numbers.items (Commits c.group_last-last.result) =
    c.put.ensures ∙ (λ i. with_live (c.make_place.ensures.same i) (c.deref.ensures.value i) (Commits c.group_last-last.result)) in
    begun_in_step old _ c.self.invariant none (ap (λ (v : LogStoreValue). bars_groups v.job) c.self.view_is ∙ c.requires.unbarred) some
    (begins_with old c.min-size.result c.count_extents-count.result c.in_ok-group.group.count c.in_ok-group.group.bytes.items
    c.in_ok-chain.chain.numbers.items c.in_ok-chain.chain.link c.take_chain.new.self c.begin_group.new.self c.drop_first.new.contents.items
    c.group_last-last.result (live_value c.put.new.self) c.new.result
    size c.in_ok-group.ensures.bytes count c.in_ok-group.ensures.count c.in_ok-chain.ensures.ok c.begin_group.ensures c.drop_first.ensures
    c.group_last-last.ensures lives c.new.ensures)
    c.in_ok-chain.ensures.in_range.1

pub returns-clause-ok : goal.returns-clause-ok
returns-clause-ok g c =
    let old : LogStoreValue = record {
      roots = c.self.inside.roots;
      commits = c.self.inside.commits;
      contents = c.self.inside.contents.items;
      room = c.self.inside.room;
      live = live_value c.self.inside.live;
      turn = c.self.inside.turn;
      job = c.self.inside.job;
      reclaim = c.self.inside.reclaim;
      named = c.self.inside.named;
      archive = c.self.inside.archive;
      disk = g.D.Disk.state c.self.inside.disk;
    } in
    let size : c.min-size.result ≡ group_size old = c.min-size.ensures ∙ ap (λ (n : ℕ). min 1024 n) c.waiting.ensures in
    let count : c.count_extents-count.result ≡ count_of (length c.in_ok-group.group.bytes.items) =
    c.count_extents-count.ensures ∙ ap count_of (c.len.ensures ∙ (let same = c.in_ok-group.group.bytes.ok.0 in omega (arith, same))) in
    let lives : live_value c.put.new.self ≡ with_live old.live c.in_ok-chain.chain.numbers.items (Commits c.group_last-last.result) =
    c.put.ensures ∙ (λ i. with_live (c.make_place.ensures.same i) (c.deref.ensures.value i) (Commits c.group_last-last.result)) in
    subst (λ (v : LogStoreValue). Begins v (record old {
      commits = c.begin_group.new.self;
      contents = c.drop_first.new.contents.items;
      room = c.take_chain.new.self;
      live = live_value c.put.new.self;
      turn = Some c.new.result;
    })) c.self.view_is
    (begins_with old c.min-size.result c.count_extents-count.result c.in_ok-group.group.count c.in_ok-group.group.bytes.items
    c.in_ok-chain.chain.numbers.items c.in_ok-chain.chain.link c.take_chain.new.self c.begin_group.new.self c.drop_first.new.contents.items
    c.group_last-last.result (live_value c.put.new.self) c.new.result
    size c.in_ok-group.ensures.bytes count c.in_ok-group.ensures.count c.in_ok-chain.ensures.ok c.begin_group.ensures c.drop_first.ensures
    c.group_last-last.ensures lives c.new.ensures)
