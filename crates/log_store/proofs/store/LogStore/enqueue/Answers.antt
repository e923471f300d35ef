use Rattle.std.proofs.Common.{◌∙◌, sym, ap, ℕ, List, ◌++◌, ◌∷◌, []}
use Rattle.chains.specs.KeyWrites.{KeyWrites}
use Rattle.commits.specs.Values.{ordered}
use Rattle.log_room.specs.Contents.{content_over, extents_over}
use Rattle.log_store.specs.Live.{live_value}
use Rattle.log_store.specs.Values.{LogStoreValue}
use Rattle.log_store.proofs.InStep.{queued_in_step}
use Rattle.log_store.proofs.store.LogStore.enqueue.Goals as goal

pub invariant_of-self-2 : goal.invariant_of-self-2
invariant_of-self-2 g c =
    let old : LogStoreValue = record {
      roots = c.self.inside.roots;
      commits = c.self.inside.commits;
      contents = c.self.inside.contents.items;
      room = c.self.inside.room;
      live = live_value c.self.inside.live;
      turn = c.self.inside.turn;
      job = c.self.inside.job;
      reclaim = c.self.inside.reclaim;
      named = c.self.inside.named;
      archive = c.self.inside.archive;
      disk = g.D.Disk.state c.self.inside.disk;
    } in
    queued_in_step old c.args.label c.args.accepted.time c.args.accepted.count c.args.accepted.anchors c.args.writes.now c.in_ok-content.content
    c.enqueue.new.self c.push_back_reserved.new.self.items c.promise.new.self c.self.invariant c.in_ok-enqueue.ensures.ok
    (c.push_back_reserved.ensures.items ∙ ap (λ (cs : List (List ℕ)). cs ++ c.in_ok-content.content ∷ []) c.in_ok-reserve.ensures.items)
    (c.in_ok-content.ensures
    ∙ ap (λ (versions : List KeyWrites). content_over versions c.args.label c.args.accepted.time c.args.writes.now) c.ordered.ensures.is)
    (c.requires.count ∙ ap (λ (v : LogStoreValue). extents_over (ordered v.commits) c.args.writes.now) (sym c.self.view_is))
    c.promise.ensures.is c.promise.ensures.few
