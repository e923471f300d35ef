use Rattle.history.proofs.Machines.{opened_by-machine, run-machine}
use Rattle.history.proofs.laws.run_keeps_machine.Goals as goal

pub returns-clause-opened : goal.returns-clause-opened
returns-clause-opened g c = λ most h floors history reached. opened_by-machine g.V.Stored.IsValue most h floors history reached

pub returns-clause-keeps : goal.returns-clause-keeps
returns-clause-keeps g c = λ old new events is run. run-machine g.V.Stored.IsValue old new events is run
