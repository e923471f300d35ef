use Rattle.std.proofs.Common.{take}
use Rattle.shell.proofs.DumpLemmas.{Written}
use Rattle.shell.specs.Dump.{IsSlotText}
use Rattle.shell.proofs.dump.write_slots.Given as goal

abbrev pub invariant-loop-slot : goal.invariant-loop-slot
invariant-loop-slot g l = Written IsSlotText (take l.slot-index l.slots) (g.W.Write.contents l.initial.output) (g.W.Write.contents l.output)
