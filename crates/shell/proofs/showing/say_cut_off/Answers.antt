use Rattle.session.specs.Texts.{open_line}
use Rattle.shell.proofs.Said.{front-more, says-more}
use Rattle.shell.proofs.showing.say_cut_off.Goals as goal

pub returns-in-Err : goal.returns-in-Err
returns-in-Err g c = (
  front-more (g.W.Write.contents c.args.output.now.writer) (g.W.Write.contents c.say.new.self.writer) c.args.text.now (open_line c.args.fault)
      c.in-Err.ensures.0,
  c.in-Err.ensures.1,
)

pub returns-in-Ok : goal.returns-in-Ok
returns-in-Ok g c =
    says-more (g.W.Write.contents c.args.output.now.writer) (g.W.Write.contents c.say.new.self.writer)
    (g.W.Write.contents c.write_reply.new.output.writer) c.args.text.now (open_line c.args.fault)
    c.write_reply.result c.write_reply.new.output.refused c.in-Ok.ensures c.write_reply.ensures
