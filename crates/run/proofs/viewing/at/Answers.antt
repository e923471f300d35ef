use Rattle.std.proofs.Common.{refl}
use Rattle.std.specs.Prelude.{slice_get}
use Rattle.run.specs.declared.calls.Call.TheVariants as call
use Rattle.law_any_store.proofs.Few.{at-few}
use Rattle.run.proofs.Steps.{unknown-goes}
use Rattle.run.proofs.Views.{held-view, held-no_view, at-goes}
use Rattle.run.proofs.viewing.at.Goals as goal

pub returns-in_default-clause-goes : goal.returns-in_default-clause-goes
returns-in_default-clause-goes g c =
    unknown-goes g.D.Disk.tells c.args.store.now c.args.places.now c.args.places.now (call.At c.args.view c.args.key c.args.time) refl
    (held-no_view (slice_get c.args.places.now c.args.view) c.in_default.ensures)

pub returns-clause-goes : goal.returns-clause-goes
returns-clause-goes g c =
    at-goes g.D.Disk.tells c.args.store.now c.at.new.self c.args.places.now c.args.view c.args.key c.args.time c.in-Some.asked.now c.at.result
    (held-view (slice_get c.args.places.now c.args.view) c.in-Some.asked.now c.in-Some.ensures) c.at.ensures

pub returns-clause-made : goal.returns-clause-made
returns-clause-made g c =
    at-few g.D.Disk.tells c.args.store.now c.at.new.self c.in-Some.asked.now c.args.key c.args.time c.at.result c.at.ensures
