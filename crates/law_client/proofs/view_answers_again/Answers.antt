use Rattle.law_client.proofs.Asking.{view-again, answered-settled}
use Rattle.law_client.proofs.view_answers_again.Goals as goal

pub returns-clause-again : goal.returns-clause-again
returns-clause-again c = view-again c.public_clauses.ensures

pub returns-clause-settled : goal.returns-clause-settled
returns-clause-settled c = answered-settled c.public_clauses.ensures
