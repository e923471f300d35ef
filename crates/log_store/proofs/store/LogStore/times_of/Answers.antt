use Rattle.std.proofs.Common.{◌∙◌, ap, refl, sym, subst}
use Rattle.log_base.specs.Bases.{mark_of}
use Rattle.log_store.specs.Live.{live_value}
use Rattle.log_store.specs.Names.{AnswersTimes}
use Rattle.log_store.specs.Values.{LogStoreValue}
use Rattle.log_store.proofs.store.LogStore.times_of.Goals as goal

pub returns : goal.returns
returns g c =
    let old : LogStoreValue = record {
      roots = c.self.inside.roots;
      commits = c.self.inside.commits;
      contents = c.self.inside.contents.items;
      room = c.self.inside.room;
      live = live_value c.self.inside.live;
      turn = c.self.inside.turn;
      job = c.self.inside.job;
      reclaim = c.self.inside.reclaim;
      named = c.self.inside.named;
      archive = c.self.inside.archive;
      disk = g.D.Disk.state c.self.inside.disk;
    } in
    subst (λ (v : LogStoreValue). AnswersTimes g.D.Disk.tells v c.args.label c.times_on.result (record old { disk = g.D.Disk.state c.times_on.new.disk }))
    c.self.view_is (c.times_on.ensures old refl (sym (c.mark_of-mark.ensures ∙ ap mark_of c.chains.ensures)) refl refl)
