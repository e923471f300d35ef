use Rattle.law_commits.proofs.Freshening.{freshens, fresh-is}
use Rattle.law_commits.proofs.laws.freshened_stands.Goals as goal

pub returns-clause-stands : goal.returns-clause-stands
returns-clause-stands c = freshens

pub returns-clause-fresh : goal.returns-clause-fresh
returns-clause-fresh c = fresh-is
