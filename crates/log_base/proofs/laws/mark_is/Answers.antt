use Rattle.log_base.proofs.RunsLeft.{mark-is}
use Rattle.log_base.proofs.laws.mark_is.Goals as goal

pub returns : goal.returns
returns c = mark-is
