use Rattle.run.proofs.Tracing.{put-is-submitted, delete-is-submitted, written-is-found}
use Rattle.run.proofs.laws.writes_are_submitted.Goals as goal

pub returns-clause-put : goal.returns-clause-put
returns-clause-put c = put-is-submitted

pub returns-clause-delete : goal.returns-clause-delete
returns-clause-delete c = delete-is-submitted

pub returns-clause-found : goal.returns-clause-found
returns-clause-found c = written-is-found
