use Rattle.law_opening.proofs.Opened.{open-stands}
use Rattle.law_opening.proofs.Reopened.{open-refuses}
use Rattle.law_opening.proofs.Witness.{open-answers}
use Rattle.law_opening.proofs.open_stands.Goals as goal

pub returns-clause-opens : goal.returns-clause-opens
returns-clause-opens c = open-stands

pub returns-clause-answers : goal.returns-clause-answers
returns-clause-answers c = open-answers

pub returns-clause-refuses : goal.returns-clause-refuses
returns-clause-refuses c = open-refuses
