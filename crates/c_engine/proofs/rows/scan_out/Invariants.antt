use Rattle.std.proofs.Common.{map, take}
use Rattle.c_engine.specs.Rows.{shown_entry, AreLaid}
use Rattle.c_engine.proofs.rows.scan_out.Given as goal

abbrev pub invariant-loop-entry : goal.invariant-loop-entry
invariant-loop-entry l = AreLaid (map shown_entry (take l.entry-index l.found)) l.copying l.rows l.out
