use Rattle.law_any_store.proofs.Views.{begin-goes, abort-goes, submit-goes, redeem-goes, pump-goes, job-pump-goes, archive-start-goes, reclaim-start-goes}
use Rattle.law_any_store.proofs.Views.{floor-start-goes, grow-start-goes}
use Rattle.law_any_store.proofs.laws.views_go_on.Goals as goal

pub returns-clause-begin : goal.returns-clause-begin
returns-clause-begin c = begin-goes

pub returns-clause-abort : goal.returns-clause-abort
returns-clause-abort c = abort-goes

pub returns-clause-submit : goal.returns-clause-submit
returns-clause-submit c = submit-goes

pub returns-clause-redeem : goal.returns-clause-redeem
returns-clause-redeem c = redeem-goes

pub returns-clause-pump : goal.returns-clause-pump
returns-clause-pump c = pump-goes

pub returns-clause-job_pump : goal.returns-clause-job_pump
returns-clause-job_pump c = job-pump-goes

pub returns-clause-archive : goal.returns-clause-archive
returns-clause-archive c = archive-start-goes

pub returns-clause-reclaim : goal.returns-clause-reclaim
returns-clause-reclaim c = reclaim-start-goes

pub returns-clause-floor : goal.returns-clause-floor
returns-clause-floor c = floor-start-goes

pub returns-clause-grow : goal.returns-clause-grow
returns-clause-grow c = grow-start-goes
