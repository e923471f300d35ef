use Rattle.std.proofs.Common.{ap, subst, inl, inr, ◌∙◌}
use Rattle.session.specs.Session.{State, Step}
use Rattle.any_store.specs.Values.{disk_of}
use Rattle.shell.specs.Vacuums.{DoesVacuum}
use Rattle.shell.proofs.actions.vacuum.Goals as goal

pub returns-in-Err : goal.returns-in-Err
returns-in-Err g c = inl (c.in-Err.fault, c.in-Err.ensures.err, c.refuse.ensures)

pub returns-in-Err-new : goal.returns-in-Err-new
returns-in-Err-new g c =
    inr (inl (c.in-Ok.store, c.in-Ok.ensures.ok, c.close.ensures ∙ ap disk_of c.in-Err-new.ensures.err, c.refuse-in-Err-new.ensures))

pub returns : goal.returns
returns g c = inr (inr (record {
  opened = c.in-Ok.store;
  opens = c.in-Ok.ensures.ok;
  done = c.do_jobs-done.result;
  asked = c.do_jobs-done.new.session;
  does = subst (λ (s : State). DoesVacuum (Step g.D.Disk.tells) c.args.upto s c.do_jobs-done.result c.do_jobs-done.new.session) c.in-Ok-new.ensures.ok
      c.do_jobs-done.ensures;
  given = g.D.Disk.state c.close-disk.result;
  closes = c.close-disk.ensures;
  says = c.tell_vacuum-status.ensures;
}))
