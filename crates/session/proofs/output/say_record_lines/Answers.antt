use Rattle.std.proofs.Common.{ap}
use Rattle.session.proofs.SayLemmas.{front-among}
use Rattle.session.specs.Texts as told
use Rattle.session.proofs.output.say_record_lines.Goals as goal

pub returns-in-Err : goal.returns-in-Err
returns-in-Err g c = (
  front-among told.record_text (g.W.Write.contents c.args.output.now.writer) (g.W.Write.contents c.loop-pair.output.writer)
      (g.W.Write.contents c.say_record.new.output.writer)
      c.args.found.now c.loop-pair.pair-index c.pair-item.result _ c.loop-pair-test.true c.loop-pair.invariant c.in-Err.ensures.0
      (ap told.record_text c.pair-item.is),
  c.in-Err.ensures.1,
)
