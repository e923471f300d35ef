use Rattle.std.proofs.Common.{Some, refl, subst}
use Rattle.log_store.specs.Live.{live_value}
use Rattle.log_store.specs.Archives.{archive_as, BeginsArchive}
use Rattle.log_store.specs.Values.{LogStoreValue}
use Rattle.log_store.specs.declared.job.JobStage.TheVariants.{Writing}
use Rattle.log_store.specs.declared.job.JobWork.TheVariants.{Archive}
use Rattle.log_store.proofs.Archives.{archive-begins}
use Rattle.log_store.proofs.store.LogStore.begin_archive.Goals as goal

pub returns-clause-ok : goal.returns-clause-ok
returns-clause-ok g c =
    let old : LogStoreValue = record {
      roots = c.self.inside.roots;
      commits = c.self.inside.commits;
      contents = c.self.inside.contents.items;
      room = c.self.inside.room;
      live = live_value c.self.inside.live;
      turn = c.self.inside.turn;
      job = c.self.inside.job;
      reclaim = c.self.inside.reclaim;
      named = c.self.inside.named;
      archive = c.self.inside.archive;
      disk = g.D.Disk.state c.self.inside.disk;
    } in
    subst (λ (v : LogStoreValue). BeginsArchive v c.args.run c.args.writer (record old {
      room = c.promise_entry.new.self;
      job = Some (record { work = Archive (archive_as c.args.run) c.in_ok-archives.archives; stage = Writing c.args.writer });
      archive = c.make_place.new.self;
    })) c.self.view_is
    (archive-begins old c.args.run c.args.writer _ c.promise_entry.new.self c.make_place.new.self c.in_ok-archives.archives refl c.upto.ensures
    c.none.ensures c.promise_entry.ensures.is c.in_ok-archives.ensures c.in_ok-make_place.ensures.ok)
