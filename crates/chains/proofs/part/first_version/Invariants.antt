use Rattle.std.proofs.Common.{◌≡◌, length}
use Rattle.std.specs.List.{slice_get}
use Rattle.chains.specs.Rows.{versions_upto}
use Rattle.chains.proofs.part.first_version.Given as goal

abbrev pub invariant-loop-rest : goal.invariant-loop-rest
invariant-loop-rest l = slice_get (versions_upto l.end l.rest) 0 ≡ slice_get (versions_upto l.end l.writes) 0

abbrev pub decreases-loop-rest : goal.decreases-loop-rest
decreases-loop-rest l = length l.rest
