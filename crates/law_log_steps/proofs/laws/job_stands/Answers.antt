use Rattle.law_log_steps.proofs.Jobs.{job-stands}
use Rattle.law_log_steps.proofs.laws.job_stands.Goals as goal

pub returns : goal.returns
returns c = λ tells old new answer m step sound is pumps. job-stands tells old new answer m step sound is pumps
