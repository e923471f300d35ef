use Rattle.shared.proofs.Moments.{still-goes}
use Rattle.shared.proofs.shared_txn.SharedTxn.apply.Goals as goal

pub invariant_of-self : goal.invariant_of-self
invariant_of-self g c = still-goes _ _ c.self.inside.txn c.apply.new.txn _ c.apply.new.txn.writes c.self.invariant c.apply.ensures.kept
