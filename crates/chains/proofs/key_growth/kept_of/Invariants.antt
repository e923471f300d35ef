use Rattle.std.proofs.Common.{◌≡◌, ◌++◌, length}
use Rattle.chains.specs.KeyWrites.{forgotten}
use Rattle.chains.proofs.key_growth.kept_of.Given as goal

abbrev pub invariant-loop-rest : goal.invariant-loop-rest
invariant-loop-rest l = l.found.items ++ forgotten l.mark l.rest ≡ forgotten l.mark l.chains

abbrev pub decreases-loop-rest : goal.decreases-loop-rest
decreases-loop-rest l = length l.rest
