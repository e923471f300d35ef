use Rattle.std.proofs.Common.{◌≡◌, ◌++◌, length}
use Rattle.timequery.specs.Homes.{lesser, not_lesser}
use Rattle.timequery.proofs.rows.add_lesser.Given as goal

-- what was put, and what is still to be, is all, and the same is left behind it
abbrev pub invariant-loop-row : goal.invariant-loop-row
invariant-loop-row l = record {
  put : l.found.items ++ lesser l.number l.rows.items ≡ l.fn.found.items ++ lesser l.number l.fn.rows.items;
  left : not_lesser l.number l.rows.items ≡ not_lesser l.number l.fn.rows.items;
}

abbrev pub decreases-loop-row : goal.decreases-loop-row
decreases-loop-row l = length l.rows.items
