use Rattle.std.proofs.Common.{◌≡◌, List, sym, ap, ◌∙◌}
use Rattle.chains.specs.KeyWrites.{KeyWrites}
use Rattle.vacuum.specs.Anchors.{Sourced, olds_of}
use Rattle.store.specs.Values.{StoreValue}
use Rattle.store.specs.Reclaims.{anchors_of}
use Rattle.store.proofs.ReclaimStarts.{too-full}
use Rattle.store.proofs.store.Store.reclaim_start.Goals as goal

pub returns-in_default-count_extents : goal.returns-in_default-count_extents
returns-in_default-count_extents g c =
    let from : c.new-counter.result.left ≡ anchors_of c.args.self.now =
    ap (λ (s : Sourced). s.left) c.new-counter.ensures.is ∙ ap (λ (m : List KeyWrites). olds_of c.self.inside.archived.upto m) c.in-Ok-versions.ensures
    ∙ ap (λ (v : StoreValue). olds_of v.archived v.transactions.versions) c.self.view_is in
    too-full c.args.self.now c.new-counter.result.left (sym c.reclaim_refusal.ensures ∙ c.in_default.is) from c.in_default-count_extents.ensures
