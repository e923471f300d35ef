use Rattle.law_client.proofs.Committing.{put-settles}
use Rattle.law_client.proofs.Settling.{settled-stays, settled-read, settled-reopens, times-stay}
use Rattle.law_client.proofs.settled_stands.Goals as goal

pub returns-clause-put : goal.returns-clause-put
returns-clause-put c = put-settles c.public_clauses.ensures

pub returns-clause-stays : goal.returns-clause-stays
returns-clause-stays c = settled-stays c.public_clauses.ensures

pub returns-clause-read : goal.returns-clause-read
returns-clause-read c = settled-read c.public_clauses.ensures

pub returns-clause-kept : goal.returns-clause-kept
returns-clause-kept c = times-stay c.public_clauses.ensures

pub returns-clause-reopens : goal.returns-clause-reopens
returns-clause-reopens c = settled-reopens c.public_clauses.ensures
