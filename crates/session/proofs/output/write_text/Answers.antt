use Rattle.session.proofs.SayLemmas.{writes-front, writes-more, writes-some, writes-start}
use Rattle.session.proofs.output.write_text.Goals as goal

pub loop-init : goal.loop-init
loop-init g c = writes-start (g.W.Write.contents c.args.writer.now) c.args.text.now

pub returns-in-Err : goal.returns-in-Err
returns-in-Err g c =
    writes-front (g.W.Write.contents c.args.writer.now) (g.W.Write.contents c.loop.writer) (g.W.Write.contents c.write_front.new.writer) c.args.text.now
    c.loop.rest.now c.loop.invariant c.in-Err.ensures

pub loop-preserved : goal.loop-preserved
loop-preserved g c =
    writes-more (g.W.Write.contents c.args.writer.now) (g.W.Write.contents c.loop.writer) (g.W.Write.contents c.write_front.new.writer) c.args.text.now
    c.loop.rest.now c.in-Ok.left.now c.loop.invariant c.in-Ok.ensures

pub returns : goal.returns
returns g c = writes-some (g.W.Write.contents c.args.writer.now) (g.W.Write.contents c.loop.writer) c.args.text.now c.loop.rest.now c.loop.invariant
