use Rattle.session.specs.Texts.{text_of}
use Rattle.shell.specs.Vacuums.{archived_line}
use Rattle.shell.proofs.Said.{front-more, says-more}
use Rattle.shell.proofs.actions.say_refused_after.Goals as goal

pub returns-in-Err : goal.returns-in-Err
returns-in-Err g c = (
  front-more (g.W.Write.contents c.args.output.now.writer) (g.W.Write.contents c.say_archived.new.output.writer) (archived_line c.args.counts)
      (text_of c.args.refusal.now) c.in-Err.ensures.0,
  c.in-Err.ensures.1,
)

pub returns-in-Ok : goal.returns-in-Ok
returns-in-Ok g c =
    says-more (g.W.Write.contents c.args.output.now.writer) (g.W.Write.contents c.say_archived.new.output.writer)
    (g.W.Write.contents c.write_reply.new.output.writer) (archived_line c.args.counts) (text_of c.args.refusal.now)
    c.write_reply.result c.write_reply.new.output.refused c.in-Ok.ensures c.write_reply.ensures
