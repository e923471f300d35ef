use Rattle.std.proofs.Common.{refl}
use Rattle.std.specs.Prelude.{slice_get}
use Rattle.run.specs.declared.calls.Call.TheVariants as call
use Rattle.run.specs.Places.{copied}
use Rattle.run.proofs.Steps.{unknown-goes}
use Rattle.run.proofs.Views.{held-view, held-no_view, recent-copied, recent-goes}
use Rattle.run.proofs.viewing.recent.Goals as goal

pub returns-in_default : goal.returns-in_default
returns-in_default g c =
    unknown-goes g.D.Disk.tells c.args.store.now c.args.places.now c.args.places.now (call.Recent c.args.view c.args.key c.args.time) refl
    (held-no_view (slice_get c.args.places.now c.args.view) c.in_default.ensures)

pub returns : goal.returns
returns g c =
    recent-goes g.D.Disk.tells c.args.store.now c.args.places.now c.args.view c.args.key c.args.time c.in-Some.asked.now (copied c.recent.result) c.owned.result
    (held-view (slice_get c.args.places.now c.args.view) c.in-Some.asked.now c.in-Some.ensures)
    (recent-copied c.in-Some.asked.now c.args.key c.args.time c.recent.result c.recent.ensures) c.owned.ensures
