use Rattle.std.proofs.Common.{ap, subst, inl, inr, ◌∙◌, ◌+◌}
use Rattle.session.specs.Run.{Run}
use Rattle.session.specs.Session.{State}
use Rattle.session.specs.Streams.{lines_read}
use Rattle.any_store.specs.Values.{disk_of}
use Rattle.shell.specs.Acts.{told}
use Rattle.shell.proofs.Said.{has-status}
use Rattle.shell.proofs.actions.run_script.Goals as goal

pub returns-in-Err : goal.returns-in-Err
returns-in-Err g c = inl (c.in-Err.fault, c.in-Err.ensures.err, c.refuse.ensures)

pub returns-in-Err-new : goal.returns-in-Err-new
returns-in-Err-new g c =
    inr (inl (c.in-Ok.store, c.in-Ok.ensures.ok, c.close.ensures ∙ ap disk_of c.in-Err-new.ensures.err, c.refuse-in-Err-new.ensures))

pub returns : goal.returns
returns g c = inr (inr (record {
  opened = c.in-Ok.store;
  opens = c.in-Ok.ensures.ok;
  lines = c.answer_lines-ending.ensures.ran.0;
  are = c.answer_lines-ending.ensures.ran.2;
  out = c.answer_lines-ending.ensures.ran.1;
  end = c.answer_lines-ending.result.0;
  run = subst (λ (s : State). Run g.D.Disk.tells (lines_read c.args.input.now + 1) s c.answer_lines-ending.ensures.ran.0 c.answer_lines-ending.ensures.ran.1
      (c.answer_lines-ending.result.0, g.D.Disk.state c.answer_lines-ending.result.1)) c.in-Ok-new.ensures.ok c.answer_lines-ending.ensures.ran.3;
  said = c.answer_lines-ending.ensures.ran.4;
  ends = c.answer_lines-ending.ensures.refused;
  status = has-status c.answer_lines-ending.result.0 (told g.W.Write.contents c.status_of_ending.result c.args.output.now c.answer_lines-ending.new.output)
      c.status_of_ending.ensures;
}))
