use Rattle.law_library.proofs.Formatting.{new-stands, memory-alone, new-keeps}
use Rattle.law_library.proofs.what_is_formatted_is_kept.Goals as goal

pub returns-clause-stands : goal.returns-clause-stands
returns-clause-stands c = new-stands

pub returns-clause-opens : goal.returns-clause-opens
returns-clause-opens c = memory-alone

pub returns-clause-keeps : goal.returns-clause-keeps
returns-clause-keeps c = new-keeps
