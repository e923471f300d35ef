use Rattle.std.proofs.Common.{length}
use Rattle.deltas.proofs.changes.«+changed_len».Given as goal

abbrev pub decreases-changed_len : goal.decreases-changed_len
decreases-changed_len l = length l.olds
