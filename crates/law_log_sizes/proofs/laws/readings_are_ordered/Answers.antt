use Rattle.law_log_sizes.proofs.Orders.{standing-ordered, group-ordered}
use Rattle.law_log_sizes.proofs.Chains.{chains-ordered, by-chain}
use Rattle.law_log_sizes.proofs.laws.readings_are_ordered.Goals as goal

pub returns-clause-standing : goal.returns-clause-standing
returns-clause-standing c = λ reading h floors stands. standing-ordered reading h floors stands

pub returns-clause-group : goal.returns-clause-group
returns-clause-group c = λ mark reading group ordered up rising. group-ordered mark reading group ordered up rising

pub returns-clause-chains : goal.returns-clause-chains
returns-clause-chains c = λ most names chains olds runs placed may rising times. chains-ordered most names chains olds runs placed may rising times

pub returns-clause-members : goal.returns-clause-members
returns-clause-members c = λ mark chains. by-chain mark chains
