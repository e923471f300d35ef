use Rattle.std.proofs.Common.{◌≡◌, Option, None, Err, subst}
use Rattle.std.specs.Prelude.{◌↔◌, IsSome}
use Rattle.history.specs.declared.key.Key.{Key}
use Rattle.history.specs.Key.{same_key}
use Rattle.law_image.specs.Values.{Value}
use Rattle.snapshot.specs.Txn.{TxnValue, IsFullFor, with_delete, writes_after_delete}
use Rattle.snapshot.specs.declared.txn.TxnFault.TheVariants as fault
use Rattle.shared.specs.Moments.{TxnMoment, value_for}
use Rattle.shared.proofs.Moments.{still-works, changed-ok, sees-after, kept-err, of-seen}
use Rattle.shared.proofs.shared_txn.SharedTxn.delete.Goals as goal

pub invariant_of-self : goal.invariant_of-self
invariant_of-self g c =
    still-works c.delete.result _ _ c.self.inside.txn c.delete.new.self _ (writes_after_delete c.self.inside.txn c.args.key) c.self.invariant
    c.delete.ensures.ok c.delete.ensures.err

pub returns-clause-ok : goal.returns-clause-ok
returns-clause-ok g c =
    changed-ok c.delete.result c.self.inside.txn c.delete.new.self c.self.inside.pass.seen c.args.self.now (λ (t : TxnValue). with_delete t c.args.key)
    c.self.view_is c.delete.ensures.ok

pub returns-clause-by_key : goal.returns-clause-by_key
returns-clause-by_key g c =
    sees-after c.delete.result _ _ c.self.inside.txn c.delete.new.self c.self.inside.pass.seen c.args.self.now
    (writes_after_delete c.self.inside.txn c.args.key)
    (λ (q : Key). same_key c.args.key q) None
    c.self.view_is c.self.invariant.0 c.delete.ensures.ok c.delete.ensures.by_key

pub returns-clause-missing : goal.returns-clause-missing
returns-clause-missing g c =
    of-seen _ _ c.self.inside.txn c.self.inside.pass.seen c.args.self.now c.args.key (λ (o : Option Value). (c.delete.result ≡ Err fault.Missing)
    ↔ (o ≡ None)) c.self.view_is c.self.invariant.0 c.delete.ensures.missing

pub returns-clause-too_many : goal.returns-clause-too_many
returns-clause-too_many g c =
    subst (λ (t : TxnMoment). (c.delete.result ≡ Err fault.TooManyKeys)
    ↔ (IsSome (value_for c.args.self.now c.args.key) × IsFullFor t.txn.writes c.args.key)) c.self.view_is
    (of-seen _ _ c.self.inside.txn c.self.inside.pass.seen c.args.self.now c.args.key (λ (o : Option Value). (c.delete.result ≡ Err fault.TooManyKeys)
    ↔ (IsSome o × IsFullFor c.self.inside.txn.writes c.args.key)) c.self.view_is c.self.invariant.0 c.delete.ensures.too_many)

pub returns-clause-err : goal.returns-clause-err
returns-clause-err g c = kept-err c.delete.result c.self.inside.txn c.delete.new.self c.self.inside.pass.seen c.args.self.now c.self.view_is
    c.delete.ensures.err
