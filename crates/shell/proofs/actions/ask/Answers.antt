use Rattle.std.proofs.Common.{ap, subst, inl, inr, ◌∙◌}
use Rattle.script.specs.declared.line.Line.{Line}
use Rattle.session.specs.Session.{State, Step}
use Rattle.any_store.specs.Values.{disk_of}
use Rattle.shell.specs.Asking.{line_asked}
use Rattle.shell.proofs.actions.ask.Goals as goal

pub returns-in-Err : goal.returns-in-Err
returns-in-Err g c = inl (c.in-Err.fault, c.in-Err.ensures.err, c.refuse.ensures)

pub returns-in-Err-new : goal.returns-in-Err-new
returns-in-Err-new g c =
    inr (inl (c.in-Ok.store, c.in-Ok.ensures.ok, c.close.ensures ∙ ap disk_of c.in-Err-new.ensures.err, c.refuse-in-Err-new.ensures))

pub returns : goal.returns
returns g c = inr (inr (record {
  opened = c.in-Ok.store;
  opens = c.in-Ok.ensures.ok;
  answer = c.answer-reply.result;
  asked = c.answer-reply.new.session;
  step = subst (λ (s : State). Step g.D.Disk.tells s (line_asked c.args.question c.in-Ok.store) c.answer-reply.result c.answer-reply.new.session)
      c.in-Ok-new.ensures.ok
      (subst (λ (l : Line). Step g.D.Disk.tells c.in-Ok-new.session l c.answer-reply.result c.answer-reply.new.session) c.line_asked-line.ensures.line
      c.answer-reply.ensures);
  told = c.tell_in.ensures;
  closes = c.close-2.ensures;
}))
