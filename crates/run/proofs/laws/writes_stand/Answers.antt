use Rattle.run.proofs.Commits.{commit-has-its-time, write-stands}
use Rattle.run.proofs.laws.writes_stand.Goals as goal

pub returns-clause-one : goal.returns-clause-one
returns-clause-one c = commit-has-its-time

pub returns-clause-stands : goal.returns-clause-stands
returns-clause-stands c = write-stands
