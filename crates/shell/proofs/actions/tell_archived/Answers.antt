use Rattle.std.proofs.Common.{inl, inr}
use Rattle.shell.proofs.actions.tell_archived.Goals as goal

pub returns-in-Ok : goal.returns-in-Ok
returns-in-Ok g c = inl (c.in-Ok.counts, c.in-Ok.ensures.names, c.refuse_after.ensures)

pub returns-in-Err : goal.returns-in-Err
returns-in-Err g c = inr (_, c.in-Err.ensures.fault, c.refuse_reply.ensures)
