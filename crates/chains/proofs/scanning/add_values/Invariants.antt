use Rattle.std.proofs.Common.{◌≡◌, ◌++◌, length}
use Rattle.chains.specs.Spots.{shown_there}
use Rattle.chains.proofs.scanning.add_values.Given as goal

-- what was put, and what the places that are left show, is all
abbrev pub invariant-loop-rest : goal.invariant-loop-rest
invariant-loop-rest l = l.found.items ++ shown_there l.rest ≡ l.fn.found.items ++ shown_there l.spots

abbrev pub decreases-loop-rest : goal.decreases-loop-rest
decreases-loop-rest l = length l.rest
