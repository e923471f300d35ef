use Rattle.deltas.proofs.OneList.{one_packing}
use Rattle.deltas.proofs.laws.one_packing.Goals as goal

pub returns : goal.returns
returns c = one_packing
