use Rattle.law_log_steps.proofs.FloorStarts.{floor-starts}
use Rattle.law_log_steps.proofs.laws.floor_starts.Goals as goal

pub returns : goal.returns
returns c = λ tells old new scope floor answer m step is starts. floor-starts tells old new scope floor answer m is starts
