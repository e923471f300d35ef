use Rattle.history.proofs.Decisions.{conflict-decided, floor-refused}
use Rattle.history.proofs.laws.answers_are_exact.Goals as goal

pub returns-clause-conflict : goal.returns-clause-conflict
returns-clause-conflict g c = λ m s. conflict-decided m s

pub returns-clause-floor : goal.returns-clause-floor
returns-clause-floor g c = λ m r one. floor-refused m r one
