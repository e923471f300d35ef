use Rattle.std.proofs.Common.{length}
use Rattle.chains.proofs.rows.+add_rows_of.Given as goal

abbrev pub decreases-add_rows_of : goal.decreases-add_rows_of
decreases-add_rows_of l = length l.writes.now
