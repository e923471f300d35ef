use Rattle.law_client.proofs.Committing.{done-read, done-kept, done-unchanged}
use Rattle.law_client.proofs.done_is_read.Goals as goal

pub returns-clause-read : goal.returns-clause-read
returns-clause-read c = done-read c.public_clauses.ensures

pub returns-clause-unchanged : goal.returns-clause-unchanged
returns-clause-unchanged c = done-unchanged c.public_clauses.ensures

pub returns-clause-kept : goal.returns-clause-kept
returns-clause-kept c = done-kept c.public_clauses.ensures
