use Rattle.std.proofs.Common.{◌≡◌, Option, refl, subst}
use Rattle.std.specs.Prelude.{slice_get, IfOk}
use Rattle.law_image.specs.Values.{Value}
use Rattle.run.specs.declared.calls.Call.TheVariants as call
use Rattle.run.proofs.Steps.{unknown-goes}
use Rattle.run.proofs.Reading.{held-transaction, held-no_transaction, get-goes}
use Rattle.run.proofs.transacting.get.Goals as goal

pub returns-in_default : goal.returns-in_default
returns-in_default g c =
    unknown-goes g.D.Disk.tells c.args.store.now c.args.places.now c.args.places.now (call.Get c.args.transaction c.args.key) refl
    (held-no_transaction (slice_get c.args.places.now c.args.transaction) c.in_default.ensures)

pub returns : goal.returns
returns g c =
    let seen = subst (λ (x : Option Value). IfOk c.shared.result (λ value. value ≡ x)) c.get.ensures c.shared.ensures in
    get-goes g.D.Disk.tells c.args.store.now c.args.places.now c.args.transaction c.args.key c.in-Some.txn.now c.shared.result
    (held-transaction (slice_get c.args.places.now c.args.transaction) c.in-Some.txn.now c.in-Some.ensures) seen
