use Rattle.law_log_layout.proofs.BaseJoins.{base-is_log}
use Rattle.law_log_layout.proofs.laws.base_is_log.Goals as goal

pub returns : goal.returns
returns c = base-is_log
