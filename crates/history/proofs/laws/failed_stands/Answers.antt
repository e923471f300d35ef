use Rattle.history.proofs.Machines.{run-failed}
use Rattle.history.proofs.laws.failed_stands.Goals as goal

pub returns : goal.returns
returns g c = λ old new events failed run. run-failed g.V.Stored.IsValue old new events failed run
