use Rattle.law_log_opened.proofs.Answering.{stands-answers, kept-answers, answers-stay, labels-stay}
use Rattle.law_log_opened.proofs.laws.answers_are_kept.Goals as goal

pub returns-clause-stands : goal.returns-clause-stands
returns-clause-stands c = λ tells v m stands. stands-answers tells v m stands

pub returns-clause-kept : goal.returns-clause-kept
returns-clause-kept c = λ tells v m disk mark again step stands told opens. kept-answers tells v m disk mark again step stands told opens

pub returns-clause-stay : goal.returns-clause-stay
returns-clause-stay c = λ tells v m disk mark again asked new later view key time answer step stands told opens is now goes answers early kept.
    answers-stay tells v m disk mark again asked new later view key time answer step stands told opens is now goes answers early kept

pub returns-clause-labels : goal.returns-clause-labels
returns-clause-labels c = labels-stay
