use Rattle.std.proofs.Common.{◌≡◌, [], length}
use Rattle.log_base.specs.Bases.{runs_from}
use Rattle.log_base.proofs.base.runs_from.Given as goal

abbrev pub invariant-loop-rest : goal.invariant-loop-rest
invariant-loop-rest l = runs_from l.runs.items l.rest ≡ runs_from [] l.chains

abbrev pub decreases-loop-rest : goal.decreases-loop-rest
decreases-loop-rest l = length l.rest
