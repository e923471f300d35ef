use Rattle.std.proofs.Common.{◌≡◌, ◌++◌}
use Rattle.timequery.specs.Homes.{scanned_after}
use Rattle.timequery.proofs.rows.scan_rows_after.Given as goal

-- what was put, and what is left, is all
abbrev pub invariant-loop-number : goal.invariant-loop-number
invariant-loop-number l = l.found.items ++ scanned_after l.mark l.a l.b l.number-iterator.rest.items ≡ scanned_after l.mark l.a l.b l.fn.rows.items
