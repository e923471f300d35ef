use Rattle.shell.proofs.job_records.slot_records.Goals as goal

pub returns-in-Ok-clause-names : goal.returns-in-Ok-clause-names
returns-in-Ok-clause-names g c = (c.in-Ok.slots.items, c.in-Ok.ensures.log, cc)

pub returns-in-Err-clause-fault : goal.returns-in-Err-clause-fault
returns-in-Err-clause-fault g c = (c.in-Err.fault, c.in-Err.ensures.fault, c.open_fault.ensures)
