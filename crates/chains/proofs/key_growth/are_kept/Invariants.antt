use Rattle.std.proofs.Common.{◌≡◌, length}
use Rattle.chains.specs.KeyWrites.{forgotten}
use Rattle.chains.proofs.key_growth.are_kept.Given as goal

-- where nothing of those that are left is forgotten, nothing of all is
abbrev pub invariant-loop-rest : goal.invariant-loop-rest
invariant-loop-rest l = forgotten l.mark l.rest ≡ l.rest → forgotten l.mark l.chains ≡ l.chains

abbrev pub decreases-loop-rest : goal.decreases-loop-rest
decreases-loop-rest l = length l.rest
