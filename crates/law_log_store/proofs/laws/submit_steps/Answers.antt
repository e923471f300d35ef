use Rattle.law_log_store.proofs.Calls.{submit-steps, failed-queues-none}
use Rattle.law_log_store.proofs.laws.submit_steps.Goals as goal

pub returns-clause-steps : goal.returns-clause-steps
returns-clause-steps c = λ old new txn label now answer h queue floors step s may is.
    submit-steps old new txn label now answer h queue floors step s may is

pub returns-clause-failed : goal.returns-clause-failed
returns-clause-failed c = λ old new txn label now answer failed is. failed-queues-none old new txn label now answer failed is
