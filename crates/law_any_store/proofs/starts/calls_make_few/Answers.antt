use Rattle.law_any_store.proofs.Few.{begin-few, abort-few, submit-few, redeem-few, pump-few, start-few, reclaim-few, floor-few, grow-few, pumped-few, at-few}
use Rattle.law_any_store.proofs.Few.{scan_at-few, between-few, scan_between-few, times-few}
use Rattle.law_any_store.proofs.starts.calls_make_few.Goals as goal

pub returns-clause-begin : goal.returns-clause-begin
returns-clause-begin c = begin-few

pub returns-clause-abort : goal.returns-clause-abort
returns-clause-abort c = abort-few

pub returns-clause-submit : goal.returns-clause-submit
returns-clause-submit c = submit-few

pub returns-clause-redeem : goal.returns-clause-redeem
returns-clause-redeem c = redeem-few

pub returns-clause-pump : goal.returns-clause-pump
returns-clause-pump c = pump-few

pub returns-clause-archive : goal.returns-clause-archive
returns-clause-archive c = start-few

pub returns-clause-reclaim : goal.returns-clause-reclaim
returns-clause-reclaim c = reclaim-few

pub returns-clause-floor : goal.returns-clause-floor
returns-clause-floor c = floor-few

pub returns-clause-grow : goal.returns-clause-grow
returns-clause-grow c = grow-few

pub returns-clause-job_pump : goal.returns-clause-job_pump
returns-clause-job_pump c = pumped-few

pub returns-clause-at : goal.returns-clause-at
returns-clause-at c = at-few

pub returns-clause-scan_at : goal.returns-clause-scan_at
returns-clause-scan_at c = scan_at-few

pub returns-clause-between : goal.returns-clause-between
returns-clause-between c = between-few

pub returns-clause-scan_between : goal.returns-clause-scan_between
returns-clause-scan_between c = scan_between-few

pub returns-clause-times : goal.returns-clause-times
returns-clause-times c = times-few
