use Rattle.law_commits.proofs.Submitting.{conflict-found, conflict-decided, submit-step}
use Rattle.law_commits.proofs.laws.submit_stands.Goals as goal

pub returns-clause-found : goal.returns-clause-found
returns-clause-found c = conflict-found

pub returns-clause-decided : goal.returns-clause-decided
returns-clause-decided c = conflict-decided

pub returns-clause-stands : goal.returns-clause-stands
returns-clause-stands c = submit-step
