use Rattle.law_log_sizes.proofs.Told.{state-size, state-anchors}
use Rattle.law_log_sizes.proofs.laws.state_has_size.Goals as goal

pub returns-clause-size : goal.returns-clause-size
returns-clause-size c = λ mark time reading olds ordered le lt are. state-size mark reading ordered time olds le lt are

pub returns-clause-anchors : goal.returns-clause-anchors
returns-clause-anchors c = λ mark time reading ordered le lt. state-anchors mark reading ordered time le lt
