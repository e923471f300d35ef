use Rattle.std.proofs.Common.{ap}
use Rattle.session.proofs.SayLemmas.{front-among}
use Rattle.session.specs.Texts as told
use Rattle.session.proofs.output.say_row_lines.Goals as goal

pub returns-in-Err : goal.returns-in-Err
returns-in-Err g c = (
  front-among told.row_text (g.W.Write.contents c.args.output.now.writer) (g.W.Write.contents c.loop-row.output.writer)
      (g.W.Write.contents c.say_row.new.output.writer)
      c.args.rows.now c.loop-row.row-index c.row-item.result _ c.loop-row-test.true c.loop-row.invariant c.in-Err.ensures.0 (ap told.row_text c.row-item.is),
  c.in-Err.ensures.1,
)
