use Rattle.law_log_sizes.proofs.Sizes.{goes-on}
use Rattle.law_log_sizes.proofs.Told.{group-grows}
use Rattle.law_log_sizes.proofs.laws.numbers_go_on.Goals as goal

pub returns-clause-members : goal.returns-clause-members
returns-clause-members c = λ len before front back. goes-on len before front back

pub returns-clause-group : goal.returns-clause-group
returns-clause-group c = λ mark reading group ordered. group-grows mark reading ordered group
