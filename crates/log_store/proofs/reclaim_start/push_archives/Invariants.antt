use Rattle.std.proofs.Common.{◌≡◌, ◌++◌, length}
use Rattle.log_store.specs.Reclaims.{archives_in}
use Rattle.log_store.proofs.reclaim_start.push_archives.Given as goal

abbrev pub invariant-loop-rest : goal.invariant-loop-rest
invariant-loop-rest l = l.archives.items ++ archives_in l.rest ≡ l.fn.archives.items ++ archives_in l.chains

abbrev pub decreases-loop-rest : goal.decreases-loop-rest
decreases-loop-rest l = length l.rest
