use Rattle.floors.proofs.Owns.{raised-is}
use Rattle.floors.proofs.laws.raised_is.Goals as goal

pub returns : goal.returns
returns c = raised-is
