use Rattle.std.proofs.Common.{ℕ, refl, subst}
use Rattle.timequery.specs.Asked.{alone}
use Rattle.timequery.specs.Asked as asked
use Rattle.timequery.proofs.Carried.{carried}
use Rattle.log_store.specs.Live.{live_value}
use Rattle.log_store.specs.Queries.{in_log_store, AnswersScanAt}
use Rattle.log_store.specs.Values.{LogStoreValue}
use Rattle.log_store.proofs.store.LogStore.scan_at.Goals as goal

pub returns : goal.returns
returns g c =
    let s = c.self.inside in
    let tells = g.D.Disk.tells in
    let view = c.args.view.now in
    let before = g.D.Disk.state s.disk in
    let archive = c.scan_at.new.self in
    let after = g.D.Disk.state c.scan_at.new.disk in
    let v : LogStoreValue = record {
      roots = s.roots;
      commits = s.commits;
      contents = s.contents.items;
      room = s.room;
      live = live_value s.live;
      turn = s.turn;
      job = s.job;
      reclaim = s.reclaim;
      named = s.named;
      archive = s.archive;
      disk = before;
    } in
    let own = asked.is_own s.commits.mark s.archive view in
    let says = subst (λ (mark : ℕ). asked.AnswersScanAt alone tells mark (s.archive, before) view c.args.relation c.args.time c.scan_at.result (archive, after))
    c.mark-mark.ensures c.scan_at.ensures in
    subst (λ (x : LogStoreValue). AnswersScanAt tells x view c.args.relation c.args.time c.scan_at.result (record v
    { archive = archive; disk = after })) c.self.view_is
    (carried in_log_store tells v view archive after refl refl c.scan_at.result own _ _ _ _ _ says)
