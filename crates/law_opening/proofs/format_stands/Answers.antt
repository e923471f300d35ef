use Rattle.law_opening.proofs.Formatted.{formatted-leaves, formatted-stands, formatted-opens, shut-stands}
use Rattle.law_opening.proofs.format_stands.Goals as goal

pub returns-clause-leaves : goal.returns-clause-leaves
returns-clause-leaves c = λ slots old new is. (formatted-stands slots old new is, λ image left. formatted-leaves slots old new image is left)

pub returns-clause-stops : goal.returns-clause-stops
returns-clause-stops c = shut-stands

pub returns-clause-opens : goal.returns-clause-opens
returns-clause-opens c = formatted-opens
