use Rattle.law_any_store.proofs.Leaving.{begin-leaves, abort-leaves, submit-leaves, redeem-leaves}
use Rattle.law_any_store.proofs.laws.calls_leave.Goals as goal

pub returns-clause-begin : goal.returns-clause-begin
returns-clause-begin c = begin-leaves

pub returns-clause-abort : goal.returns-clause-abort
returns-clause-abort c = abort-leaves

pub returns-clause-submit : goal.returns-clause-submit
returns-clause-submit c = submit-leaves

pub returns-clause-redeem : goal.returns-clause-redeem
returns-clause-redeem c = redeem-leaves
