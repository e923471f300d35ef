use Rattle.std.proofs.Common.{Some, map}
use Rattle.history.specs.declared.key.Key.{Key}
use Rattle.history.specs.Key.{same_key}
use Rattle.snapshot.specs.Txn.{TxnValue, with_put}
use Rattle.snapshot.specs.WriteSets.{with_write}
use Rattle.shared.proofs.Moments.{still-works, changed-ok, sees-after, kept-err}
use Rattle.shared.proofs.shared_txn.SharedTxn.put.Goals as goal

pub invariant_of-self : goal.invariant_of-self
invariant_of-self g c =
    let value = map (λ field. field.now) c.args.fields.now in
    still-works c.put.result _ _ c.self.inside.txn c.put.new.self _ (with_write c.self.inside.txn.writes (record { key = c.args.key; write = Some value }))
    c.self.invariant c.put.ensures.ok c.put.ensures.err

pub returns-clause-ok : goal.returns-clause-ok
returns-clause-ok g c =
    let value = map (λ field. field.now) c.args.fields.now in
    changed-ok c.put.result c.self.inside.txn c.put.new.self c.self.inside.pass.seen c.args.self.now (λ (t : TxnValue). with_put t c.args.key value)
    c.self.view_is
    c.put.ensures.ok

pub returns-clause-by_key : goal.returns-clause-by_key
returns-clause-by_key g c =
    let value = map (λ field. field.now) c.args.fields.now in
    sees-after c.put.result _ _ c.self.inside.txn c.put.new.self c.self.inside.pass.seen c.args.self.now
    (with_write c.self.inside.txn.writes (record { key = c.args.key; write = Some value })) (λ (q : Key). same_key c.args.key q) (Some value)
    c.self.view_is c.self.invariant.0 c.put.ensures.ok c.put.ensures.by_key

pub returns-clause-err : goal.returns-clause-err
returns-clause-err g c = kept-err c.put.result c.self.inside.txn c.put.new.self c.self.inside.pass.seen c.args.self.now c.self.view_is c.put.ensures.err
