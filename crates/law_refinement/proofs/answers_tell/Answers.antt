use Rattle.law_refinement.proofs.Told.{left-is, ticket-time, redeeming, pump-publishes}
use Rattle.law_refinement.proofs.answers_tell.Goals as goal

pub returns-clause-submit : goal.returns-clause-submit
returns-clause-submit c = left-is

pub returns-clause-ticket : goal.returns-clause-ticket
returns-clause-ticket c = ticket-time

pub returns-clause-redeem : goal.returns-clause-redeem
returns-clause-redeem c = redeeming

pub returns-clause-pump : goal.returns-clause-pump
returns-clause-pump c = pump-publishes
