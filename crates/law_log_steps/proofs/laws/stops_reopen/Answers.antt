use Rattle.law_log_steps.proofs.Fronts.{leaves-fronts, stop-reopens, stop-opens}
use Rattle.law_log_steps.proofs.laws.stops_reopen.Goals as goal

pub returns-clause-fronts : goal.returns-clause-fronts
returns-clause-fronts c = λ tells v m image told step is left. leaves-fronts tells v m image told step is left

pub returns-clause-again : goal.returns-clause-again
returns-clause-again c = λ tells v m old mark again told step is left sound opens. stop-reopens tells v m old mark again told step is left sound opens

pub returns-clause-opens : goal.returns-clause-opens
returns-clause-opens c = λ tells v m old new why told step is left refuses. stop-opens tells v m old new why told step is left refuses
