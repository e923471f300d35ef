use Rattle.std.proofs.Common.{map, take}
use Rattle.c_engine.specs.Rows.{shown_record, AreLaid}
use Rattle.c_engine.proofs.rows.records_out.Given as goal

abbrev pub invariant-loop-entry : goal.invariant-loop-entry
invariant-loop-entry l = AreLaid (map shown_record (take l.entry-index l.found)) l.copying l.rows l.out
