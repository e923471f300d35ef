use Rattle.law_layout.proofs.Jobs.{archive_kept, reclaim_kept, floor_kept}
use Rattle.law_layout.proofs.laws.jobs_kept.Goals as goal

pub returns-clause-archive : goal.returns-clause-archive
returns-clause-archive c = λ layout slot run areas keeps more. archive_kept layout slot run areas keeps more

pub returns-clause-reclaim : goal.returns-clause-reclaim
returns-clause-reclaim c = λ layout slot mark chain areas keeps more. reclaim_kept layout slot mark chain areas keeps more

pub returns-clause-floor : goal.returns-clause-floor
returns-clause-floor c = λ layout slot areas keeps. floor_kept layout slot areas keeps
