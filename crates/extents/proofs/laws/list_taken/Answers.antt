use Rattle.extents.proofs.Frames.{list_taken}
use Rattle.extents.proofs.laws.list_taken.Goals as goal

pub returns : goal.returns
returns c = list_taken
