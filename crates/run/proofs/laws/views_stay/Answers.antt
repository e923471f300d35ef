use Rattle.run.proofs.Tracing.{views-stay, view-answers, recent-answers}
use Rattle.run.proofs.laws.views_stay.Goals as goal

pub returns-clause-stay : goal.returns-clause-stay
returns-clause-stay c = views-stay

pub returns-clause-answers : goal.returns-clause-answers
returns-clause-answers c = view-answers

pub returns-clause-recent : goal.returns-clause-recent
returns-clause-recent c = recent-answers
