use Rattle.law_log_queries.proofs.Calls.{call-keeps, call-stands, calls-go-on}
use Rattle.law_log_queries.proofs.laws.calls_keep.Goals as goal

pub returns-clause-keeps : goal.returns-clause-keeps
returns-clause-keeps c = call-keeps

pub returns-clause-stands : goal.returns-clause-stands
returns-clause-stands c = call-stands

pub returns-clause-go_on : goal.returns-clause-go_on
returns-clause-go_on c = calls-go-on
