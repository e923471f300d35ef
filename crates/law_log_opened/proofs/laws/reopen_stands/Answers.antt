use Rattle.law_log_opened.proofs.Reopened.{reopen-stands, reopen-refuses, opening-stops, second-stops, opening-moments, closed-left, reopen-roots, image-header}
use Rattle.law_log_opened.proofs.laws.reopen_stands.Goals as goal

pub returns-clause-opens : goal.returns-clause-opens
returns-clause-opens c = λ tells v m disk mark again step stands told opens. reopen-stands tells v m disk mark again step stands told opens

pub returns-clause-refuses : goal.returns-clause-refuses
returns-clause-refuses c = λ tells v m disk new why step stands told left refuses. reopen-refuses tells v m disk new why step stands told left refuses

pub returns-clause-stops : goal.returns-clause-stops
returns-clause-stops c = λ tells v m disk new why step stands told first refuses. opening-stops tells v m disk new why step stands told first refuses

pub returns-clause-second : goal.returns-clause-second
returns-clause-second c = λ tells v m disk mark again step stands told first opens. second-stops tells v m disk mark again step stands told first opens

pub returns-clause-moments : goal.returns-clause-moments
returns-clause-moments c = λ tells v m disk new step stands told first settles. opening-moments tells v m disk new step stands told first settles

pub returns-clause-closed : goal.returns-clause-closed
returns-clause-closed c = λ v disk same sound. closed-left v disk same sound

pub returns-clause-roots : goal.returns-clause-roots
returns-clause-roots c = λ tells v m disk mark again step stands told opens. reopen-roots tells v m disk mark again step stands told opens

pub returns-clause-header : goal.returns-clause-header
returns-clause-header c = λ tells roots image h floors told is. image-header tells roots image h floors told is
