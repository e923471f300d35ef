use Rattle.std.proofs.Common.{◌≡◌, ◌++◌, length}
use Rattle.log_recovery.specs.Read.{all_archives}
use Rattle.log_recovery.proofs.all_archives.archives_of.Given as goal

abbrev pub invariant-loop-rest : goal.invariant-loop-rest
invariant-loop-rest l = l.archives.items ++ all_archives l.rest ≡ all_archives l.chains

abbrev pub decreases-loop-rest : goal.decreases-loop-rest
decreases-loop-rest l = length l.rest
