use Rattle.any_store.proofs.steps.pump_log.Goals as goal

pub returns-clause-is : goal.returns-clause-is
returns-clause-is g c = (c.pump.result, c.pump.ensures.is, c.log_step.ensures)
