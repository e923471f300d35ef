use Rattle.law_log_store.proofs.Jobs.{job-steps, job-leaves}
use Rattle.law_log_store.proofs.laws.job_steps.Goals as goal

pub returns-clause-steps : goal.returns-clause-steps
returns-clause-steps c = λ tells old new answer h queue floors tell works step sound s pumps.
    job-steps tells old new answer h queue floors tell works step s pumps sound

pub returns-clause-leaves : goal.returns-clause-leaves
returns-clause-leaves c = λ tells old new answer h queue floors image tell works step s pumps left.
    job-leaves tells old new answer h queue floors tell works step s pumps image left
