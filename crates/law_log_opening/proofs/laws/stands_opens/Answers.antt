use Rattle.law_log_opening.proofs.Opens.{stands-opens}
use Rattle.law_log_opening.proofs.laws.stands_opens.Goals as goal

pub returns : goal.returns
returns c = λ most root l reading heap archive h floors is holds stands. stands-opens most root l reading heap archive h floors is holds stands
