use Rattle.std.proofs.Common.{ℕ, refl, subst}
use Rattle.timequery.specs.Asked.{alone}
use Rattle.timequery.specs.Asked as asked
use Rattle.timequery.proofs.Carried.{carried}
use Rattle.log_store.specs.Live.{live_value}
use Rattle.log_store.specs.Queries.{in_log_store, AnswersScanRows}
use Rattle.log_store.specs.Values.{LogStoreValue}
use Rattle.log_store.proofs.store.LogStore.scan_between.Goals as goal

pub returns : goal.returns
returns g c =
    let s = c.self.inside in
    let tells = g.D.Disk.tells in
    let view = c.args.view.now in
    let before = g.D.Disk.state s.disk in
    let archive = c.scan_between.new.self in
    let after = g.D.Disk.state c.scan_between.new.disk in
    let v : LogStoreValue = record {
      roots = s.roots;
      commits = s.commits;
      contents = s.contents.items;
      room = s.room;
      live = live_value s.live;
      turn = s.turn;
      job = s.job;
      reclaim = s.reclaim;
      named = s.named;
      archive = s.archive;
      disk = before;
    } in
    let own = asked.is_own s.commits.mark s.archive view in
    let says = subst (λ (mark : ℕ). asked.AnswersScanRows alone tells mark (s.archive, before) view c.args.relation c.args.a c.args.b c.scan_between.result
    (archive, after))
    c.mark-mark.ensures c.scan_between.ensures in
    subst (λ (x : LogStoreValue). AnswersScanRows tells x view c.args.relation c.args.a c.args.b c.scan_between.result (record v
    { archive = archive; disk = after })) c.self.view_is
    (carried in_log_store tells v view archive after refl refl c.scan_between.result own _ _ _ _ _ says)
