use Rattle.extents.proofs.Frames.{first_changed}
use Rattle.extents.proofs.laws.list_given_back.Goals as goal

pub returns : goal.returns
returns c = first_changed
