use Rattle.law_refinement.proofs.Whole.{rest-goes}
use Rattle.law_refinement.proofs.GrowingViews.{query-stands, pump-goes, job-pump-goes, archive-start-goes, reclaim-start-goes, floor-start-goes}
use Rattle.law_refinement.proofs.GrowingViews.{grow-start-goes}
use Rattle.law_refinement.proofs.views_go_on.Goals as goal

pub returns-clause-at : goal.returns-clause-at
returns-clause-at c = λ tells v new m view key time answer stands says. query-stands tells v new m view time _ _ _ _ answer stands says

pub returns-clause-scan_at : goal.returns-clause-scan_at
returns-clause-scan_at c = λ tells v new m view relation time answer stands says. query-stands tells v new m view time _ _ _ _ answer stands says

pub returns-clause-between : goal.returns-clause-between
returns-clause-between c = λ tells v new m view key a b answer stands says. query-stands tells v new m view a _ _ _ _ answer stands says

pub returns-clause-scan_between : goal.returns-clause-scan_between
returns-clause-scan_between c = λ tells v new m view relation a b answer stands says. query-stands tells v new m view a _ _ _ _ answer stands says

pub returns-clause-pump : goal.returns-clause-pump
returns-clause-pump c = pump-goes

pub returns-clause-job_pump : goal.returns-clause-job_pump
returns-clause-job_pump c = job-pump-goes

pub returns-clause-archive : goal.returns-clause-archive
returns-clause-archive c = archive-start-goes

pub returns-clause-reclaim : goal.returns-clause-reclaim
returns-clause-reclaim c = reclaim-start-goes

pub returns-clause-floor : goal.returns-clause-floor
returns-clause-floor c = floor-start-goes

pub returns-clause-grow : goal.returns-clause-grow
returns-clause-grow c = grow-start-goes

pub returns-clause-rest : goal.returns-clause-rest
returns-clause-rest c = rest-goes
