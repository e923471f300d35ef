use Rattle.law_log_store.proofs.Pumping.{pump-steps, pump-leaves, failed-rests}
use Rattle.law_log_store.proofs.laws.pump_steps.Goals as goal

pub returns-clause-steps : goal.returns-clause-steps
returns-clause-steps c = λ tells old new answer h queue floors tell works step sound s pumps.
    pump-steps tells old new answer h queue floors tell works step sound s pumps

pub returns-clause-failed : goal.returns-clause-failed
returns-clause-failed c = λ tells old new answer failed pumps. failed-rests tells old new answer failed pumps

pub returns-clause-leaves : goal.returns-clause-leaves
returns-clause-leaves c = λ tells old new answer h queue floors image tell works step s pumps left.
    pump-leaves tells old new answer h queue floors image tell works step s pumps left
