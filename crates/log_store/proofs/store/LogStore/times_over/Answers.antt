use Rattle.std.proofs.Common.{◌∙◌, ap, refl, sym}
use Rattle.log_base.specs.Bases.{mark_of}
use Rattle.log_store.specs.Values.{LogStoreValue}
use Rattle.log_store.proofs.store.LogStore.times_over.Goals as goal

pub returns : goal.returns
returns g c = c.times_on.ensures (record c.args.self.now { disk = g.E.Disk.state c.args.disk.now }) (ap (λ (v : LogStoreValue). v.named) (sym c.self.view_is))
    (ap (λ (v : LogStoreValue). mark_of v.live.chains) (sym c.self.view_is) ∙ sym (c.mark_of-mark.ensures ∙ ap mark_of c.chains.ensures))
    (ap (λ (v : LogStoreValue). v.commits) (sym c.self.view_is)) refl
