use Rattle.std.proofs.Common.{◌∙◌, ap, subst}
use Rattle.shared.specs.Moments.{TxnMoment, value_for}
use Rattle.shared.specs.Shared.{SeenReached}
use Rattle.shared.proofs.Moments.{sees, works-reached}
use Rattle.shared.proofs.shared_txn.SharedTxn.get.Goals as goal

pub returns-clause-is : goal.returns-clause-is
returns-clause-is g c =
    c.get.ensures ∙ sees _ _ c.self.inside.txn c.self.inside.pass.seen c.self.invariant.0 c.args.key ∙ ap (λ (t : TxnMoment). value_for t c.args.key)
    c.self.view_is

pub returns-clause-reached : goal.returns-clause-reached
returns-clause-reached g c = subst (λ (t : TxnMoment). SeenReached g.L.Opening.start t.seen) c.self.view_is (works-reached _ _ _ _ c.self.invariant.0)
