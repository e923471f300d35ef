use Rattle.log_roots.proofs.Headers.{turn_is_free}
use Rattle.log_roots.proofs.laws.turn_is_free.Goals as goal

pub returns : goal.returns
returns c = turn_is_free
