use Rattle.std.proofs.Common.{refl}
use Rattle.shell.proofs.actions.tell_grown.Goals as goal

pub returns-in-Some : goal.returns-in-Some
returns-in-Some g c = rw c.in-Some.is (refl, c.refuse_reply.ensures)

pub returns-in-None : goal.returns-in-None
returns-in-None g c = rw c.in-None.is c.tell_slots.ensures
