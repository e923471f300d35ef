use Rattle.law_log_sizes.proofs.Told.{bounds-same, most-bound}
use Rattle.law_log_sizes.proofs.laws.bounds_are_same.Goals as goal

pub returns-clause-all : goal.returns-clause-all
returns-clause-all c = λ mark bound reading ordered. bounds-same mark reading ordered bound

pub returns-clause-most : goal.returns-clause-most
returns-clause-most c = λ mark bound reading ordered. most-bound mark reading ordered bound
