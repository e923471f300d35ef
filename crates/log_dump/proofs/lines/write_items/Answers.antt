use Rattle.log_dump.proofs.Written.{written_all, written_none, written_one}
use Rattle.log_dump.specs.Dump.{IsItemText}
use Rattle.log_dump.proofs.lines.write_items.Goals as goal

pub loop-item-init : goal.loop-item-init
loop-item-init g c = written_none IsItemText (g.W.Write.contents c.args.output.now)

pub loop-item-preserved : goal.loop-item-preserved
loop-item-preserved g c = written_one IsItemText (g.W.Write.contents c.args.output.now) (g.W.Write.contents c.loop-item.output)
    (g.W.Write.contents c.write_item.new.output) c.args.items.now c.loop-item.item-index _ c.loop-item-test.true c.loop-item.invariant
    c.in_ok-write_item.ensures

pub returns : goal.returns
returns g c = written_all IsItemText (g.W.Write.contents c.args.output.now) (g.W.Write.contents c.loop-item.output) c.args.items.now
    c.loop-item.item-index c.loop-item-test.false c.loop-item.invariant
