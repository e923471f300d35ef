use Rattle.std.proofs.Common.{◌≡◌, ◌∙◌, ap, sym, subst, MatchOption}
use Rattle.log_recovery.specs.Live.{part_of}
use Rattle.log_store.specs.Live.{live_value, with_live}
use Rattle.log_store.specs.Jobs.{BeginsEntry, IsReady, entry_of}
use Rattle.log_store.specs.Values.{LogStoreValue}
use Rattle.log_store.proofs.Entering.{begins-entry, entered_in_step}
use Rattle.log_store.proofs.store.LogStore.begin_entry.Goals as goal

pub returns-clause-ok : goal.returns-clause-ok
returns-clause-ok g c =
    let old : LogStoreValue = record {
      roots = c.self.inside.roots;
      commits = c.self.inside.commits;
      contents = c.self.inside.contents.items;
      room = c.self.inside.room;
      live = live_value c.self.inside.live;
      turn = c.self.inside.turn;
      job = c.self.inside.job;
      reclaim = c.self.inside.reclaim;
      named = c.self.inside.named;
      archive = c.self.inside.archive;
      disk = g.D.Disk.state c.self.inside.disk;
    } in
    let lives : live_value c.put.new.self ≡ with_live old.live c.in_ok-chain.chain.numbers.items (part_of (entry_of c.in-Some.job.work)) =
    c.put.ensures ∙ (λ i. with_live (c.make_place.ensures.same i) (c.deref.ensures.value i) (c.part-part.ensures i)) in
    subst (λ (v : LogStoreValue). MatchOption v.job ⊥ (λ job. BeginsEntry v job (record old {
      room = c.take_chain.new.self;
      live = live_value c.put.new.self;
      job = c.enter.new.job;
    }))) c.self.view_is
    (begins-entry old c.in-Some.job c.in_ok-bytes.bytes.items c.in_ok-chain.chain.numbers.items c.in_ok-chain.chain.link c.take_chain.new.self
    (live_value c.put.new.self) c.new-entry.result c.enter.new.job c.in-Some.is c.in_ok-bytes.ensures.is c.in_ok-chain.ensures.ok lives
    c.new-entry.ensures c.enter.ensures)

pub invariant_of-self-2 : goal.invariant_of-self-2
invariant_of-self-2 g c =
    let old : LogStoreValue = record {
      roots = c.self.inside.roots;
      commits = c.self.inside.commits;
      contents = c.self.inside.contents.items;
      room = c.self.inside.room;
      live = live_value c.self.inside.live;
      turn = c.self.inside.turn;
      job = c.self.inside.job;
      reclaim = c.self.inside.reclaim;
      named = c.self.inside.named;
      archive = c.self.inside.archive;
      disk = g.D.Disk.state c.self.inside.disk;
    } in
    let lives : live_value c.put.new.self ≡ with_live old.live c.in_ok-chain.chain.numbers.items (part_of (entry_of c.in-Some.job.work)) =
    c.put.ensures ∙ (λ i. with_live (c.make_place.ensures.same i) (c.deref.ensures.value i) (c.part-part.ensures i)) in
    entered_in_step old c.in-Some.job c.in_ok-bytes.bytes.items c.in_ok-chain.chain.numbers.items c.in_ok-chain.chain.link c.take_chain.new.self
    (live_value c.put.new.self) c.new-entry.result c.enter.new.job c.self.invariant (ap (λ (v : LogStoreValue). v.turn) c.self.view_is ∙ c.requires.none)
    (subst (λ (v : LogStoreValue). IsReady v.job) (sym c.self.view_is) c.requires.ready) c.in-Some.is c.in_ok-chain.ensures.ok
    c.in_ok-chain.ensures.in_range.1 lives c.new-entry.ensures c.enter.ensures
