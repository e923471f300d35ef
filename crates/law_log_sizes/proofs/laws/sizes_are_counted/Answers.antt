use Rattle.law_log_sizes.proofs.Told.{sizes-counted, group-counted}
use Rattle.law_log_sizes.proofs.laws.sizes_are_counted.Goals as goal

pub returns-clause-all : goal.returns-clause-all
returns-clause-all c = λ mark reading ordered. sizes-counted mark reading ordered

pub returns-clause-group : goal.returns-clause-group
returns-clause-group c = λ mark reading group ordered more. group-counted mark reading group ordered more
