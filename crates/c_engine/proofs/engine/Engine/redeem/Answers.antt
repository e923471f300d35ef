use Rattle.std.proofs.Common.{◌≡◌, false, Some, rules}
use Rattle.c_engine.specs.Engines.{asks}
use Rattle.c_engine.specs.Held.{ticket_under}
use Rattle.c_engine.proofs.engine.Engine.redeem.Goals as goal

pub returns-in-Some : goal.returns-in-Some
returns-in-Some c =
    let answered : asks c.args.self.now.state ≡ false = search rules in
    let found : ticket_under c.args.self.now c.args.ticket ≡ Some c.in-Some.ticket = c.in-Some.ensures.0 in
    rw (answered, found) (c.take_ticket.new.self, c.in-Some.ensures.1, c.redeem_taken.ensures)
