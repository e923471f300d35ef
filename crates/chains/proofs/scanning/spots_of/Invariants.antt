use Rattle.std.proofs.Common.{◌≡◌, ◌++◌, length}
use Rattle.chains.specs.Rows.{of_relation}
use Rattle.chains.specs.Scans.{shown_value}
use Rattle.chains.specs.Spots.{shown_there}
use Rattle.chains.proofs.scanning.spots_of.Given as goal

-- what the places show that were found, and what the chains that are left show, is all
abbrev pub invariant-loop-rest : goal.invariant-loop-rest
invariant-loop-rest l = shown_there l.spots.items ++ of_relation l.relation (shown_value l.time) l.rest ≡ of_relation l.relation (shown_value l.time) l.chains

abbrev pub decreases-loop-rest : goal.decreases-loop-rest
decreases-loop-rest l = length l.rest
