use Rattle.law_log_opening.proofs.Once.{fails-once, holds-or-fails}
use Rattle.law_log_opening.proofs.Sound.{archive-fails-once, opens-or-fails}
use Rattle.law_log_opening.proofs.laws.checks_decide.Goals as goal

pub returns-clause-reads : goal.returns-clause-reads
returns-clause-reads c = λ most root heap chains next a place few holds fails. holds-or-fails most root heap few chains next a place holds fails

pub returns-clause-once : goal.returns-clause-once
returns-clause-once c = λ most root heap p q few f g. fails-once most root heap few p q f g

pub returns-clause-archive : goal.returns-clause-archive
returns-clause-archive c = λ most root heap archive_len chains next a place few opens fails.
    opens-or-fails most root heap archive_len chains next a place few opens fails

pub returns-clause-archive_once : goal.returns-clause-archive_once
returns-clause-archive_once c = λ most root heap archive_len p q few f g. archive-fails-once most root heap archive_len p q few f g
