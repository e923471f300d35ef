use Rattle.law_any_store.proofs.Calls.{begin-stands, abort-stands, submit-stands, redeem-stands}
use Rattle.law_any_store.proofs.laws.calls_stand.Goals as goal

pub returns-clause-begin : goal.returns-clause-begin
returns-clause-begin c = begin-stands

pub returns-clause-abort : goal.returns-clause-abort
returns-clause-abort c = abort-stands

pub returns-clause-submit : goal.returns-clause-submit
returns-clause-submit c = submit-stands

pub returns-clause-redeem : goal.returns-clause-redeem
returns-clause-redeem c = redeem-stands
