use Rattle.law_any_store.proofs.Reopened.{reopen-stands, reopen-header, reopen-refuses, opening-stops, second-stops, opening-moments}
use Rattle.law_any_store.proofs.opening.reopen_stands.Goals as goal

pub returns-clause-opens : goal.returns-clause-opens
returns-clause-opens c = reopen-stands

pub returns-clause-header : goal.returns-clause-header
returns-clause-header c = reopen-header

pub returns-clause-refuses : goal.returns-clause-refuses
returns-clause-refuses c = reopen-refuses

pub returns-clause-stops : goal.returns-clause-stops
returns-clause-stops c = opening-stops

pub returns-clause-second : goal.returns-clause-second
returns-clause-second c = second-stops

pub returns-clause-moments : goal.returns-clause-moments
returns-clause-moments c = opening-moments
