use Rattle.law_log_layout.proofs.GroupGoes.{entry-goes}
use Rattle.law_log_layout.proofs.laws.entry_goes.Goals as goal

pub returns : goal.returns
returns c = entry-goes
