use Rattle.run.proofs.Tracing.{lists-go-on, step-is-list}
use Rattle.run.proofs.laws.lists_go_on.Goals as goal

pub returns-clause-more : goal.returns-clause-more
returns-clause-more c = lists-go-on

pub returns-clause-step : goal.returns-clause-step
returns-clause-step c = step-is-list
