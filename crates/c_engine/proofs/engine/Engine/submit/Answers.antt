use Rattle.std.proofs.Common.{◌≡◌, false, Some, rules}
use Rattle.c_engine.specs.Engines.{asks}
use Rattle.c_engine.specs.Held.{transaction_under}
use Rattle.c_engine.proofs.engine.Engine.submit.Goals as goal

pub returns-in-Some : goal.returns-in-Some
returns-in-Some c =
    let answered : asks c.args.self.now.state ≡ false = search rules in
    let found : transaction_under c.args.self.now c.args.transaction ≡ Some c.in-Some.txn = c.in-Some.ensures.0 in
    rw (answered, found) (c.take_transaction.new.self, c.in-Some.ensures.1, c.submit_taken.ensures)
