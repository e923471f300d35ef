use Rattle.law_any_store.proofs.Jobs.{archive-start-stands, reclaim-start-stands, floor-start-stands, grow-start-stands, job-pump-stands}
use Rattle.law_any_store.proofs.laws.jobs_stand.Goals as goal

pub returns-clause-archive : goal.returns-clause-archive
returns-clause-archive c = archive-start-stands

pub returns-clause-reclaim : goal.returns-clause-reclaim
returns-clause-reclaim c = reclaim-start-stands

pub returns-clause-floor : goal.returns-clause-floor
returns-clause-floor c = floor-start-stands

pub returns-clause-grow : goal.returns-clause-grow
returns-clause-grow c = grow-start-stands

pub returns-clause-step : goal.returns-clause-step
returns-clause-step c = job-pump-stands
