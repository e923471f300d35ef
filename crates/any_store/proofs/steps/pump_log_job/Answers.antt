use Rattle.any_store.proofs.steps.pump_log_job.Goals as goal

pub returns-clause-is : goal.returns-clause-is
returns-clause-is g c = (c.job_pump.result, c.job_pump.ensures.is, c.log_job_step.ensures)
