use Rattle.law_log_layout.proofs.ReclaimGoes.{reclaim-goes}
use Rattle.law_log_layout.proofs.laws.reclaim_goes.Goals as goal

pub returns : goal.returns
returns c = reclaim-goes
