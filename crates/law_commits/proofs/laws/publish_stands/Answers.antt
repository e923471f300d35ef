use Rattle.law_commits.proofs.Publishing.{publishes, published-machine, breaks}
use Rattle.law_commits.proofs.laws.publish_stands.Goals as goal

pub returns-clause-published : goal.returns-clause-published
returns-clause-published c = publishes

pub returns-clause-machine : goal.returns-clause-machine
returns-clause-machine c = published-machine

pub returns-clause-broken : goal.returns-clause-broken
returns-clause-broken c = breaks
