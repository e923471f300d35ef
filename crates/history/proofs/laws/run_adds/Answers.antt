use Rattle.history.proofs.Runs.{run-adds, run-shows}
use Rattle.history.proofs.Machines.{run-floors}
use Rattle.history.proofs.laws.run_adds.Goals as goal

pub returns-clause-order : goal.returns-clause-order
returns-clause-order g c = λ old new events run. run-adds g.V.Stored.IsValue old new events run

pub returns-clause-published : goal.returns-clause-published
returns-clause-published g c = λ old new events run. run-shows g.V.Stored.IsValue old new events run

pub returns-clause-floors : goal.returns-clause-floors
returns-clause-floors g c = λ old new events relation is run. run-floors g.V.Stored.IsValue old new events relation is run
