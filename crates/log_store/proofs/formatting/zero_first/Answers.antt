use Rattle.std.proofs.Common.{◌∙◌, ap}
use Rattle.disk.specs.Areas.{Areas, synced}
use Rattle.log_store.proofs.formatting.zero_first.Goals as goal

pub returns-clause-zeroed : goal.returns-clause-zeroed
returns-clause-zeroed g c =
    λ told. (c.in_ok-sync.ensures.areas told).synced ∙ ap (λ (a : Areas). record a { heap = synced a.heap }) (c.in_ok-write_at.ensures.areas told).written
