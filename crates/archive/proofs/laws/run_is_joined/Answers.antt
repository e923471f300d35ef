use Rattle.archive.proofs.Joining.{joined_run}
use Rattle.archive.proofs.laws.run_is_joined.Goals as goal

pub returns : goal.returns
returns c = joined_run
