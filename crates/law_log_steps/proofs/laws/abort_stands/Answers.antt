use Rattle.law_log_steps.proofs.Keeping.{abort-stands}
use Rattle.law_log_steps.proofs.laws.abort_stands.Goals as goal

pub returns : goal.returns
returns c = λ tells old new txn m is aborts. abort-stands tells old new txn m is aborts
