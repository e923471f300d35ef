use Rattle.law_client.proofs.Committing.{put-read, delete-read}
use Rattle.law_client.proofs.put_is_read.Goals as goal

pub returns-clause-put : goal.returns-clause-put
returns-clause-put c = put-read c.public_clauses.ensures

pub returns-clause-delete : goal.returns-clause-delete
returns-clause-delete c = delete-read c.public_clauses.ensures
