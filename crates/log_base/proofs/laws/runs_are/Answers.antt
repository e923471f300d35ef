use Rattle.log_base.proofs.RunsLeft.{runs-live}
use Rattle.log_base.proofs.laws.runs_are.Goals as goal

pub returns : goal.returns
returns c = λ chains n. runs-live n chains
