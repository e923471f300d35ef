use Rattle.law_commits.proofs.Names.{last-is, assigned-is}
use Rattle.law_commits.proofs.laws.last_is_last.Goals as goal

pub returns-clause-published : goal.returns-clause-published
returns-clause-published c = last-is

pub returns-clause-assigned : goal.returns-clause-assigned
returns-clause-assigned c = assigned-is
