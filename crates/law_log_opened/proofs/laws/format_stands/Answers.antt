use Rattle.law_log_opened.proofs.Formatted.{format-makes, formatted-leaves, formatted-stands, formatted-opens, format-stops, stops-empty, stop-opens}
use Rattle.law_log_opened.proofs.Created.{create-stands}
use Rattle.law_log_opened.proofs.laws.format_stands.Goals as goal

pub returns-clause-makes : goal.returns-clause-makes
returns-clause-makes c = λ extents old new result bad made. format-makes extents old new result bad made

pub returns-clause-leaves : goal.returns-clause-leaves
returns-clause-leaves c = λ extents old new is. (formatted-stands extents old new is, λ image left. formatted-leaves extents old new image is left)

pub returns-clause-opens : goal.returns-clause-opens
returns-clause-opens c = λ tells extents old new disk mark v is left sound opens told.
    formatted-opens tells extents old new disk mark v is left sound opens told

pub returns-clause-stops : goal.returns-clause-stops
returns-clause-stops c = λ old new image roots stops left reads. format-stops old new image roots stops left reads

pub returns-clause-empty : goal.returns-clause-empty
returns-clause-empty c = λ old new image roots stops none left reads first. stops-empty old new image roots stops none left reads first

pub returns-clause-stop_opens : goal.returns-clause-stop_opens
returns-clause-stop_opens c = λ tells old new disk mark v stops none left sound opens told first.
    stop-opens tells old new disk mark v stops none left sound opens told first

pub returns-clause-creates : goal.returns-clause-creates
returns-clause-creates c = λ tells old mark extents v size sound creates told. create-stands tells old mark extents v size sound creates told
