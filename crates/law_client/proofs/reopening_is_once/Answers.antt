use Rattle.law_client.proofs.Reopening.{reopening-once, second-as-first}
use Rattle.law_client.proofs.reopening_is_once.Goals as goal

pub returns-clause-once : goal.returns-clause-once
returns-clause-once c = reopening-once c.public_clauses.ensures

pub returns-clause-second : goal.returns-clause-second
returns-clause-second c = second-as-first c.public_clauses.ensures
