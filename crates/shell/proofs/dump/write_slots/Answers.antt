use Rattle.shell.proofs.DumpLemmas.{written_all, written_item, written_none}
use Rattle.shell.specs.Dump.{IsSlotText}
use Rattle.shell.proofs.dump.write_slots.Goals as goal

pub loop-slot-init : goal.loop-slot-init
loop-slot-init g c = written_none IsSlotText (g.W.Write.contents c.args.output.now)

pub loop-slot-preserved : goal.loop-slot-preserved
loop-slot-preserved g c = written_item IsSlotText (g.W.Write.contents c.args.output.now) (g.W.Write.contents c.loop-slot.output)
    (g.W.Write.contents c.write_slot.new.output) c.args.slots.now c.loop-slot.slot-index c.slot-item.result c.slot-item.is c.loop-slot-test.true
    c.loop-slot.invariant c.in_ok-write_slot.ensures

pub returns : goal.returns
returns g c = written_all IsSlotText (g.W.Write.contents c.args.output.now) (g.W.Write.contents c.loop-slot.output) c.args.slots.now
    c.loop-slot.slot-index c.loop-slot-test.false c.loop-slot.invariant
