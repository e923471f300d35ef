use Rattle.std.proofs.Common.{length}
use Rattle.deltas.proofs.slice_writer.«+put_changed».Given as goal

abbrev pub decreases-put_changed : goal.decreases-put_changed
decreases-put_changed l = length l.olds
