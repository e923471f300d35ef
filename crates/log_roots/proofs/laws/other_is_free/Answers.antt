use Rattle.log_roots.proofs.Headers.{other_is_free}
use Rattle.log_roots.proofs.laws.other_is_free.Goals as goal

pub returns : goal.returns
returns c = other_is_free
