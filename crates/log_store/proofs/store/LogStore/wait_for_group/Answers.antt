use Rattle.std.proofs.Common.{sym, subst}
use Rattle.log_store.specs.Live.{live_value}
use Rattle.log_store.specs.Jobs.{IsReady}
use Rattle.log_store.specs.Values.{LogStoreValue}
use Rattle.log_store.proofs.Entering.{waits_in_step}
use Rattle.log_store.proofs.store.LogStore.wait_for_group.Goals as goal

pub invariant_of-self : goal.invariant_of-self
invariant_of-self g c =
    let old : LogStoreValue = record {
      roots = c.self.inside.roots;
      commits = c.self.inside.commits;
      contents = c.self.inside.contents.items;
      room = c.self.inside.room;
      live = live_value c.self.inside.live;
      turn = c.self.inside.turn;
      job = c.self.inside.job;
      reclaim = c.self.inside.reclaim;
      named = c.self.inside.named;
      archive = c.self.inside.archive;
      disk = g.D.Disk.state c.self.inside.disk;
    } in
    waits_in_step old c.wait.new.job c.self.invariant (subst (λ (v : LogStoreValue). IsReady v.job) (sym c.self.view_is) c.requires) c.wait.ensures
