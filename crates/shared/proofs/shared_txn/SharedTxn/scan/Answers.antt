use Rattle.std.proofs.Common.{subst}
use Rattle.std.specs.Prelude.{IfOk}
use Rattle.std.proofs.lemmas.Result.{IfOk-weaker}
use Rattle.history.specs.Queries.{IsScan}
use Rattle.shared.specs.Moments.{TxnMoment, value_for}
use Rattle.shared.specs.Shared.{SeenReached}
use Rattle.shared.proofs.Moments.{scans, works-reached}
use Rattle.shared.proofs.shared_txn.SharedTxn.scan.Goals as goal

pub returns-clause-is : goal.returns-clause-is
returns-clause-is g c =
    subst (λ (t : TxnMoment). IfOk c.scan.result (λ found. IsScan (value_for t) c.args.relation found.items)) c.self.view_is
    (IfOk-weaker c.scan.result _ _ (λ found is. scans _ _ c.self.inside.txn c.self.inside.pass.seen c.args.relation found.items c.self.invariant.0 is)
    c.scan.ensures)

pub returns-clause-reached : goal.returns-clause-reached
returns-clause-reached g c = subst (λ (t : TxnMoment). SeenReached g.L.Opening.start t.seen) c.self.view_is (works-reached _ _ _ _ c.self.invariant.0)
