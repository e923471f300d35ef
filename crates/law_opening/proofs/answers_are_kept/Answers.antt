use Rattle.law_opening.proofs.Answering.{stands-answers, kept-answers, answers-stay, labels-stay}
use Rattle.law_opening.proofs.answers_are_kept.Goals as goal

pub returns-clause-stands : goal.returns-clause-stands
returns-clause-stands c = stands-answers

pub returns-clause-kept : goal.returns-clause-kept
returns-clause-kept c = kept-answers

pub returns-clause-stay : goal.returns-clause-stay
returns-clause-stay c = answers-stay

pub returns-clause-labels : goal.returns-clause-labels
returns-clause-labels c = labels-stay
