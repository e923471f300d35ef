use Rattle.std.proofs.Common.{take}
use Rattle.log_dump.proofs.Written.{Written}
use Rattle.log_dump.specs.Dump.{IsItemText}
use Rattle.log_dump.proofs.lines.write_items.Given as goal

abbrev pub invariant-loop-item : goal.invariant-loop-item
invariant-loop-item g l = Written IsItemText (take l.item-index l.items) (g.W.Write.contents l.initial.output) (g.W.Write.contents l.output)
