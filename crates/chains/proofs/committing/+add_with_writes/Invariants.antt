use Rattle.std.proofs.Common.{length}
use Rattle.chains.proofs.committing.+add_with_writes.Given as goal

abbrev pub decreases-add_with_writes : goal.decreases-add_with_writes
decreases-add_with_writes l = length l.chains.now
