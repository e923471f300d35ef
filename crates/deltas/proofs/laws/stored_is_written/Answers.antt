use Rattle.deltas.proofs.Writes.{stored_is_written}
use Rattle.deltas.proofs.laws.stored_is_written.Goals as goal

pub returns : goal.returns
returns c = stored_is_written
