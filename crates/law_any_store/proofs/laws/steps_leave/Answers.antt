use Rattle.law_any_store.proofs.Leaving.{pump-leaves, start-leaves, reclaim-leaves, floor-leaves, grow-leaves, pumped-leaves}
use Rattle.law_any_store.proofs.laws.steps_leave.Goals as goal

pub returns-clause-pump : goal.returns-clause-pump
returns-clause-pump c = pump-leaves

pub returns-clause-archive : goal.returns-clause-archive
returns-clause-archive c = start-leaves

pub returns-clause-reclaim : goal.returns-clause-reclaim
returns-clause-reclaim c = reclaim-leaves

pub returns-clause-floor : goal.returns-clause-floor
returns-clause-floor c = floor-leaves

pub returns-clause-grow : goal.returns-clause-grow
returns-clause-grow c = grow-leaves

pub returns-clause-job_pump : goal.returns-clause-job_pump
returns-clause-job_pump c = pumped-leaves
