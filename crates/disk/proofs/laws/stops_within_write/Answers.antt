use Rattle.disk.proofs.Within.{within-write}
use Rattle.disk.proofs.laws.stops_within_write.Goals as goal

pub returns : goal.returns
returns c = within-write
