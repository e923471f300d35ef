use Rattle.std.proofs.Common.{map, take}
use Rattle.c_engine.specs.Rows.{shown_version, AreLaid}
use Rattle.c_engine.proofs.rows.rows_out.Given as goal

abbrev pub invariant-loop-version : goal.invariant-loop-version
invariant-loop-version l = AreLaid (map (shown_version l.«record») (take l.version-index l.found)) l.copying l.rows l.out
