use Rattle.law_layout.proofs.Jobs.{archive_laid, reclaim_laid, floor_laid}
use Rattle.law_layout.proofs.laws.jobs_laid.Goals as goal

pub returns-clause-archive : goal.returns-clause-archive
returns-clause-archive c = λ header layout reading slot run laid is stored row. archive_laid header layout reading slot run laid is stored row

pub returns-clause-reclaim : goal.returns-clause-reclaim
returns-clause-reclaim c =
    λ header layout reading slot anchors chain olds laid is upto order stored free. reclaim_laid header layout reading slot anchors chain olds laid is upto
    order stored free

pub returns-clause-floor : goal.returns-clause-floor
returns-clause-floor c = λ header layout reading slot floor laid is. floor_laid header layout reading slot floor laid is
