use Rattle.std.proofs.Common.{◌≡◌, ◌++◌}
use Rattle.timequery.specs.Homes.{merged}
use Rattle.timequery.proofs.rows.merged.Given as goal

-- what was put, and what is left to be merged, is all
abbrev pub invariant-loop-number : goal.invariant-loop-number
invariant-loop-number l = l.found.items ++ merged l.number-iterator.rest.items l.recent.items ≡ merged l.fn.archived.items l.fn.recent.items
