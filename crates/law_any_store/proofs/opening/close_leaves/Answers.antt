use Rattle.law_any_store.proofs.Reopened.{close-leaves, closed-left}
use Rattle.law_any_store.proofs.opening.close_leaves.Goals as goal

pub returns-clause-leaves : goal.returns-clause-leaves
returns-clause-leaves c = close-leaves

pub returns-clause-closed : goal.returns-clause-closed
returns-clause-closed c = closed-left
