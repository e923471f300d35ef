use Rattle.status.proofs.Kept.{kept-is}
use Rattle.status.proofs.laws.floors_are_kept.Goals as goal

pub returns : goal.returns
returns c = kept-is
