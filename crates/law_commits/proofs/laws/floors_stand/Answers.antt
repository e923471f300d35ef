use Rattle.law_commits.proofs.Beside.{beside, begins, raises}
use Rattle.law_commits.proofs.laws.floors_stand.Goals as goal

pub returns-clause-beside : goal.returns-clause-beside
returns-clause-beside c = beside

pub returns-clause-raised : goal.returns-clause-raised
returns-clause-raised c = raises

pub returns-clause-group : goal.returns-clause-group
returns-clause-group c = begins
