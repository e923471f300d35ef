use Rattle.law_log_sizes.proofs.Bases.{base-keeps}
use Rattle.law_log_sizes.proofs.laws.base_keeps_states.Goals as goal

pub returns : goal.returns
returns c = λ mark reading olds after ordered le lt are. base-keeps mark reading olds after ordered le lt are
