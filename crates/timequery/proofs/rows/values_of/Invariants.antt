use Rattle.std.proofs.Common.{◌≡◌, ◌++◌}
use Rattle.timequery.specs.Homes.{values_of}
use Rattle.timequery.proofs.rows.values_of.Given as goal

-- what was put, and what is left, is all
abbrev pub invariant-loop-number : goal.invariant-loop-number
invariant-loop-number l = l.found.items ++ values_of l.number-iterator.rest.items ≡ values_of l.fn.rows.items
