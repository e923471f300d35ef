use Rattle.std.proofs.Common.{◌≡◌, ◌++◌}
use Rattle.timequery.specs.Homes.{rows_after}
use Rattle.timequery.proofs.rows.add_rows_after.Given as goal

-- what was put, and what is left, is all
abbrev pub invariant-loop-row : goal.invariant-loop-row
invariant-loop-row l = l.found.items ++ rows_after l.mark l.a l.b l.row-iterator.rest.items ≡ l.fn.found.items ++ rows_after l.mark l.a l.b l.fn.rows.items
