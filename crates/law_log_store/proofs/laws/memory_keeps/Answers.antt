use Rattle.law_log_store.proofs.Calls.{begin-keeps, abort-keeps, redeem-keeps}
use Rattle.law_log_store.proofs.laws.memory_keeps.Goals as goal

pub returns-clause-begin : goal.returns-clause-begin
returns-clause-begin c = λ old new answer is. begin-keeps old new answer is

pub returns-clause-abort : goal.returns-clause-abort
returns-clause-abort c = λ old new txn is. abort-keeps old new txn is

pub returns-clause-redeem : goal.returns-clause-redeem
returns-clause-redeem c = λ old new ticket answer is. redeem-keeps old new ticket answer is
