use Rattle.law_opening.proofs.Formatted.{shut-stands}
use Rattle.law_log_opened.proofs.Formatted.{stops-empty}
use Rattle.law_any_store.proofs.Formatted.{formatted-leaves, formatted-stands, formatted-opens, image-seen}
use Rattle.law_any_store.proofs.formatting.format_stands.Goals as goal

pub returns-clause-leaves : goal.returns-clause-leaves
returns-clause-leaves c = λ layout old new is. (formatted-stands layout old new is, λ image left. formatted-leaves layout old new image is left)

pub returns-clause-opens : goal.returns-clause-opens
returns-clause-opens c = formatted-opens

pub returns-clause-slot_stops : goal.returns-clause-slot_stops
returns-clause-slot_stops c = shut-stands

pub returns-clause-log_stops : goal.returns-clause-log_stops
returns-clause-log_stops c = λ old new image roots stops none left reads first. stops-empty old new image roots stops none left reads first

pub returns-clause-seen : goal.returns-clause-seen
returns-clause-seen c = image-seen
