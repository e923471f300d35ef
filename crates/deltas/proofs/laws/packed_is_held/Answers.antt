use Rattle.deltas.proofs.Holding.{packed_is_held}
use Rattle.deltas.proofs.laws.packed_is_held.Goals as goal

pub returns : goal.returns
returns c = packed_is_held
