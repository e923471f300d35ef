use Rattle.std.proofs.Common.{refl}
use Rattle.shell.proofs.actions.tell_vacuum.Goals as goal

pub returns-in-Nothing : goal.returns-in-Nothing
returns-in-Nothing g c = rw c.in-Nothing.is (refl, c.refuse_reply.ensures)

pub returns-in-Archived : goal.returns-in-Archived
returns-in-Archived g c = rw c.in-Archived.is c.tell_archived.ensures

pub returns-in-Both : goal.returns-in-Both
returns-in-Both g c = rw c.in-Both.is c.tell_both.ensures
