use Rattle.std.proofs.Common.{length}
use Rattle.chains.proofs.committing.+add_new.Given as goal

abbrev pub decreases-add_new : goal.decreases-add_new
decreases-add_new l = length l.writes.now
