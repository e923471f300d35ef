use Rattle.law_opening.proofs.Reopened.{reopen-stands, reopen-slots, reopen-refuses, opening-stops, second-stops, opening-moments, closed-left}
use Rattle.law_opening.proofs.Opened.{image-header}
use Rattle.law_opening.proofs.reopen_stands.Goals as goal

pub returns-clause-opens : goal.returns-clause-opens
returns-clause-opens c = reopen-stands

pub returns-clause-refuses : goal.returns-clause-refuses
returns-clause-refuses c = reopen-refuses

pub returns-clause-closed : goal.returns-clause-closed
returns-clause-closed c = closed-left

pub returns-clause-stops : goal.returns-clause-stops
returns-clause-stops c = opening-stops

pub returns-clause-moments : goal.returns-clause-moments
returns-clause-moments c = opening-moments

pub returns-clause-second : goal.returns-clause-second
returns-clause-second c = second-stops

pub returns-clause-slots : goal.returns-clause-slots
returns-clause-slots c = reopen-slots

pub returns-clause-header : goal.returns-clause-header
returns-clause-header c = image-header
