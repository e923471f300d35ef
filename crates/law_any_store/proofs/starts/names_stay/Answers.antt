use Rattle.law_any_store.proofs.Names.{begin-names, abort-names, submit-names, redeem-names, pump-names, start-names, reclaim-names, floor-names, grow-names}
use Rattle.law_any_store.proofs.Names.{pumped-names, kept-names}
use Rattle.law_any_store.proofs.starts.names_stay.Goals as goal

pub returns-clause-begin : goal.returns-clause-begin
returns-clause-begin c = begin-names

pub returns-clause-abort : goal.returns-clause-abort
returns-clause-abort c = abort-names

pub returns-clause-submit : goal.returns-clause-submit
returns-clause-submit c = submit-names

pub returns-clause-redeem : goal.returns-clause-redeem
returns-clause-redeem c = redeem-names

pub returns-clause-pump : goal.returns-clause-pump
returns-clause-pump c = pump-names

pub returns-clause-archive : goal.returns-clause-archive
returns-clause-archive c = start-names

pub returns-clause-reclaim : goal.returns-clause-reclaim
returns-clause-reclaim c = reclaim-names

pub returns-clause-floor : goal.returns-clause-floor
returns-clause-floor c = floor-names

pub returns-clause-grow : goal.returns-clause-grow
returns-clause-grow c = grow-names

pub returns-clause-job_pump : goal.returns-clause-job_pump
returns-clause-job_pump c = pumped-names

pub returns-clause-same : goal.returns-clause-same
returns-clause-same c = kept-names
