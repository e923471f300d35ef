use Rattle.std.proofs.Common.{refl}
use Rattle.std.specs.Prelude.{slice_get}
use Rattle.run.specs.declared.calls.Call.TheVariants as call
use Rattle.law_any_store.proofs.Few.{scan_between-few}
use Rattle.run.proofs.Steps.{unknown-goes}
use Rattle.run.proofs.Views.{held-view, held-no_view, scan_between-goes}
use Rattle.run.proofs.viewing.scan_between.Goals as goal

pub returns-in_default-clause-goes : goal.returns-in_default-clause-goes
returns-in_default-clause-goes g c =
    unknown-goes g.D.Disk.tells c.args.store.now c.args.places.now c.args.places.now (call.ScanBetween c.args.view c.args.relation c.args.a c.args.b) refl
    (held-no_view (slice_get c.args.places.now c.args.view) c.in_default.ensures)

pub returns-clause-goes : goal.returns-clause-goes
returns-clause-goes g c =
    scan_between-goes g.D.Disk.tells c.args.store.now c.scan_between.new.self c.args.places.now c.args.view c.args.relation c.args.a c.args.b
    c.in-Some.asked.now c.scan_between.result (held-view (slice_get c.args.places.now c.args.view) c.in-Some.asked.now c.in-Some.ensures) c.scan_between.ensures

pub returns-clause-made : goal.returns-clause-made
returns-clause-made g c =
    scan_between-few g.D.Disk.tells c.args.store.now c.scan_between.new.self c.in-Some.asked.now c.args.relation c.args.a c.args.b c.scan_between.result
    c.scan_between.ensures
