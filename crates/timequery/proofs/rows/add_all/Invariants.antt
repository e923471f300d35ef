use Rattle.std.proofs.Common.{◌≡◌, ◌++◌, length}
use Rattle.timequery.proofs.rows.add_all.Given as goal

-- what was put, and what is left, is all
abbrev pub invariant-loop-row : goal.invariant-loop-row
invariant-loop-row l = l.found.items ++ l.rows.items ≡ l.fn.found.items ++ l.fn.rows.items

abbrev pub decreases-loop-row : goal.decreases-loop-row
decreases-loop-row l = length l.rows.items
