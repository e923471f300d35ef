use Rattle.law_log_queries.proofs.Asking.{times-stand}
use Rattle.law_log_queries.proofs.Times.{times-answered}
use Rattle.law_log_queries.proofs.laws.times_are_answered.Goals as goal

pub returns-clause-answered : goal.returns-clause-answered
returns-clause-answered c = λ tells v new m label answer stands says. times-answered tells v m label stands new answer says

pub returns-clause-stands : goal.returns-clause-stands
returns-clause-stands c = times-stand
