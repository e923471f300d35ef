use Rattle.std.proofs.Common.{◌∙◌, ap, subst}
use Rattle.history.specs.Histories.{last}
use Rattle.shared.specs.Moments.{TxnMoment}
use Rattle.shared.specs.Shared.{SeenReached}
use Rattle.shared.proofs.Moments.{works-reached}
use Rattle.shared.proofs.shared_txn.SharedTxn.snapshot.Goals as goal

pub returns-clause-is : goal.returns-clause-is
returns-clause-is g c = c.snapshot.ensures ∙ c.self.invariant.0.snapshot ∙ ap (λ (t : TxnMoment). last t.seen.published) c.self.view_is

pub returns-clause-reached : goal.returns-clause-reached
returns-clause-reached g c = subst (λ (t : TxnMoment). SeenReached g.L.Opening.start t.seen) c.self.view_is (works-reached _ _ _ _ c.self.invariant.0)
