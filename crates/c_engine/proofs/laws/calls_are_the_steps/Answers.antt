use Rattle.c_engine.proofs.Calling.{group-call, job-call}
use Rattle.c_engine.proofs.laws.calls_are_the_steps.Goals as goal

pub returns-clause-group : goal.returns-clause-group
returns-clause-group c = group-call

pub returns-clause-job : goal.returns-clause-job
returns-clause-job c = job-call
