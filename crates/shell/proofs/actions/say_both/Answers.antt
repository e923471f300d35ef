use Rattle.shell.specs.Vacuums.{archived_line, reclaimed_line}
use Rattle.shell.proofs.Said.{front-more, says-more}
use Rattle.shell.proofs.actions.say_both.Goals as goal

pub returns-in-Err : goal.returns-in-Err
returns-in-Err g c = (
  front-more (g.W.Write.contents c.args.output.now.writer) (g.W.Write.contents c.say_archived.new.output.writer) (archived_line c.args.counts)
      (reclaimed_line c.args.counts) c.in-Err.ensures.0,
  c.in-Err.ensures.1,
)

pub returns-in-Ok : goal.returns-in-Ok
returns-in-Ok g c =
    says-more (g.W.Write.contents c.args.output.now.writer) (g.W.Write.contents c.say_archived.new.output.writer)
    (g.W.Write.contents c.write_numbered.new.output.writer) (archived_line c.args.counts) (reclaimed_line c.args.counts)
    c.write_numbered.result c.write_numbered.new.output.refused c.in-Ok.ensures c.write_numbered.ensures
