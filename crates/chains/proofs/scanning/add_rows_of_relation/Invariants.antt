use Rattle.std.proofs.Common.{◌≡◌, ◌++◌, length}
use Rattle.chains.specs.Rows.{of_relation, shown_rows}
use Rattle.chains.proofs.scanning.add_rows_of_relation.Given as goal

-- what was put, and what the chains that are left show, is all
abbrev pub invariant-loop-rest : goal.invariant-loop-rest
invariant-loop-rest l =
    l.found.items ++ of_relation l.relation (shown_rows l.a l.b) l.rest ≡ l.fn.found.items ++ of_relation l.relation (shown_rows l.a l.b) l.chains

abbrev pub decreases-loop-rest : goal.decreases-loop-rest
decreases-loop-rest l = length l.rest
