use Rattle.log_roots.proofs.Headers.{one_reading}
use Rattle.log_roots.proofs.laws.one_reading.Goals as goal

pub returns : goal.returns
returns c = one_reading
