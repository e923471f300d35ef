use Rattle.law_log_steps.proofs.ReclaimStarts.{reclaim-starts}
use Rattle.law_log_steps.proofs.laws.reclaim_starts.Goals as goal

pub returns : goal.returns
returns c = λ tells old new answer m step is starts. reclaim-starts tells old new answer m step is starts
