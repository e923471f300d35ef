use Rattle.run.proofs.Tracing.{tickets-stay, done-names-its-submit}
use Rattle.run.proofs.laws.done_names_its_submit.Goals as goal

pub returns-clause-stay : goal.returns-clause-stay
returns-clause-stay c = tickets-stay

pub returns-clause-done : goal.returns-clause-done
returns-clause-done c = done-names-its-submit
