use Rattle.std.proofs.Common.{refl}
use Rattle.std.specs.Prelude.{slice_get}
use Rattle.run.specs.declared.calls.Call.TheVariants as call
use Rattle.run.proofs.Steps.{unknown-goes}
use Rattle.run.proofs.Reading.{held-transaction, held-no_transaction, scan-goes}
use Rattle.run.proofs.transacting.scan.Goals as goal

pub returns-in_default : goal.returns-in_default
returns-in_default g c =
    unknown-goes g.D.Disk.tells c.args.store.now c.args.places.now c.args.places.now (call.Scan c.args.transaction c.args.relation) refl
    (held-no_transaction (slice_get c.args.places.now c.args.transaction) c.in_default.ensures)

pub returns : goal.returns
returns g c =
    scan-goes g.D.Disk.tells c.args.store.now c.args.places.now c.args.transaction c.args.relation c.in-Some.txn.now c.scan.result
    (held-transaction (slice_get c.args.places.now c.args.transaction) c.in-Some.txn.now c.in-Some.ensures) c.scan.ensures
