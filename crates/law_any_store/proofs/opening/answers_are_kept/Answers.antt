use Rattle.law_any_store.proofs.Answering.{stands-answers, kept-answers, answers-stay}
use Rattle.law_any_store.proofs.opening.answers_are_kept.Goals as goal

pub returns-clause-stands : goal.returns-clause-stands
returns-clause-stands c = stands-answers

pub returns-clause-kept : goal.returns-clause-kept
returns-clause-kept c = kept-answers

pub returns-clause-stay : goal.returns-clause-stay
returns-clause-stay c = answers-stay
