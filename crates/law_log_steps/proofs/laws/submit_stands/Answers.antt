use Rattle.law_log_steps.proofs.Submitting.{submit-stands}
use Rattle.law_log_steps.proofs.laws.submit_stands.Goals as goal

pub returns : goal.returns
returns c = λ tells old new txn label now answer m step is are range submits.
    submit-stands tells old new txn label now answer m step is submits are range
