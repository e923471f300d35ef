use Rattle.law_log_layout.proofs.SameHistory.{values-stay, group-of_both}
use Rattle.law_log_layout.proofs.behind.values_stay.Goals as goal

pub returns-clause-values : goal.returns-clause-values
returns-clause-values c = λ reading other h floors raised key stands same. values-stay reading other h floors raised stands same key

pub returns-clause-group : goal.returns-clause-group
returns-clause-group c = λ reading other h next floors raised group stands same profile is.
    group-of_both reading other h floors raised stands same next group profile is
