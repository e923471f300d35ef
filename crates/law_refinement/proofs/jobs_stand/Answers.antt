use Rattle.law_refinement.proofs.GrowingCalls.{archive-start-stands, reclaim-start-stands, floor-start-stands}
use Rattle.law_refinement.proofs.GrowingJobs.{grow-start-stands}
use Rattle.law_refinement.proofs.GrowingPiece.{job-pump-stands}
use Rattle.law_refinement.proofs.jobs_stand.Goals as goal

pub returns-clause-archive : goal.returns-clause-archive
returns-clause-archive c = λ tells old new upto answer m stands starts. archive-start-stands tells old new upto answer m stands starts

pub returns-clause-reclaim : goal.returns-clause-reclaim
returns-clause-reclaim c = λ tells old new answer m stands starts. reclaim-start-stands tells old new answer m stands starts

pub returns-clause-floor : goal.returns-clause-floor
returns-clause-floor c = λ tells old new scope floor answer m stands starts. floor-start-stands tells old new scope floor answer m stands starts

pub returns-clause-grow : goal.returns-clause-grow
returns-clause-grow c = λ tells old new answer m stands starts. grow-start-stands tells old new answer m stands starts

pub returns-clause-step : goal.returns-clause-step
returns-clause-step c = λ tells old new answer m stands sound pumps. job-pump-stands tells old new answer m stands sound pumps
