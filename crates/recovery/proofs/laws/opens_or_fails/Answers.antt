use Rattle.recovery.proofs.OneAnswer.{opening_only, one_fault}
use Rattle.recovery.proofs.laws.opens_or_fails.Goals as goal

pub returns-clause-opens : goal.returns-clause-opens
returns-clause-opens c = λ header image layout reading fault opening fails. opening_only header image layout reading fault opening fails

pub returns-clause-fails : goal.returns-clause-fails
returns-clause-fails c = λ image a b fails_a fails_b. one_fault image a b fails_a fails_b
