use Rattle.history.proofs.Tickets.{done-published, done-stays}
use Rattle.history.proofs.laws.done_stays.Goals as goal

pub returns-clause-published : goal.returns-clause-published
returns-clause-published g c = λ m time. done-published m time

pub returns-clause-stays : goal.returns-clause-stays
returns-clause-stays g c = λ old new events time run done. done-stays g.V.Stored.IsValue old new events time run done
