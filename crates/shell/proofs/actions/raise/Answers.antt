use Rattle.std.proofs.Common.{ap, subst, inl, inr, Some, ◌∙◌}
use Rattle.script.specs.declared.line.Line.TheVariants as line
use Rattle.session.specs.Session.{State, Step}
use Rattle.any_store.specs.Values.{disk_of}
use Rattle.shell.specs.Vacuums.{DoesJob}
use Rattle.shell.proofs.actions.raise.Goals as goal

pub returns-in-Err : goal.returns-in-Err
returns-in-Err g c = inl (c.in-Err.fault, c.in-Err.ensures.err, c.refuse.ensures)

pub returns-in-Err-new : goal.returns-in-Err-new
returns-in-Err-new g c =
    inr (inl (c.in-Ok.store, c.in-Ok.ensures.ok, c.close.ensures ∙ ap disk_of c.in-Err-new.ensures.err, c.refuse-in-Err-new.ensures))

pub returns : goal.returns
returns g c = inr (inr (record {
  opened = c.in-Ok.store;
  opens = c.in-Ok.ensures.ok;
  refused = c.do_job-refused.result;
  asked = c.do_job-refused.new.session;
  does = subst (λ (s : State). DoesJob (Step g.D.Disk.tells) (line.Floor
      (Some c.args.relation) c.args.time) s c.do_job-refused.result c.do_job-refused.new.session)
      c.in-Ok-new.ensures.ok c.do_job-refused.ensures;
  closes = c.close-2.ensures;
  says = c.tell_raised.ensures;
}))
