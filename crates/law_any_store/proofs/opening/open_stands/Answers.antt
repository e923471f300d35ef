use Rattle.law_any_store.proofs.Opened.{open-stands, image-header}
use Rattle.law_any_store.proofs.Reopened.{open-refuses}
use Rattle.law_any_store.proofs.opening.open_stands.Goals as goal

pub returns-clause-opens : goal.returns-clause-opens
returns-clause-opens c = open-stands

pub returns-clause-refuses : goal.returns-clause-refuses
returns-clause-refuses c = open-refuses

pub returns-clause-header : goal.returns-clause-header
returns-clause-header c = image-header
