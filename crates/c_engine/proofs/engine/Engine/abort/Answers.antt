use Rattle.std.proofs.Common.{◌≡◌, Some, refl}
use Rattle.c_engine.specs.Held.{transaction_under}
use Rattle.c_engine.proofs.engine.Engine.abort.Goals as goal

pub returns-in-Some : goal.returns-in-Some
returns-in-Some c =
    let found : transaction_under c.args.self.now c.args.transaction ≡ Some c.in-Some.txn = c.in-Some.ensures.0 in
    rw found (refl, (c.take_transaction.new.self, c.in-Some.ensures.1, c.end_transaction.ensures))
