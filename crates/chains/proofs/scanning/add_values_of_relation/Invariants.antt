use Rattle.std.proofs.Common.{◌≡◌, ◌++◌, length}
use Rattle.chains.specs.Rows.{of_relation}
use Rattle.chains.specs.Scans.{shown_value}
use Rattle.chains.proofs.scanning.add_values_of_relation.Given as goal

-- what was put, and what the chains that are left show, is all
abbrev pub invariant-loop-rest : goal.invariant-loop-rest
invariant-loop-rest l =
    l.found.items ++ of_relation l.relation (shown_value l.time) l.rest ≡ l.fn.found.items ++ of_relation l.relation (shown_value l.time) l.chains

abbrev pub decreases-loop-rest : goal.decreases-loop-rest
decreases-loop-rest l = length l.rest
