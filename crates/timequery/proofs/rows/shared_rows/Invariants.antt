use Rattle.std.proofs.Common.{◌≡◌, ◌++◌}
use Rattle.timequery.proofs.rows.shared_rows.Given as goal

-- what was put, and what is left, is all
abbrev pub invariant-loop-row : goal.invariant-loop-row
invariant-loop-row l = l.shared.items ++ l.row-iterator.rest.items ≡ l.fn.rows.items
