use Rattle.law_layout.proofs.Beside.{heap_beside, archive_beside}
use Rattle.law_layout.proofs.laws.write_beside.Goals as goal

pub returns-clause-heap : goal.returns-clause-heap
returns-clause-heap c =
    λ header layout reading e old heap laid sound is apart loose keeps. heap_beside header layout reading e old heap laid sound is apart loose keeps

pub returns-clause-archive : goal.returns-clause-archive
returns-clause-archive c =
    λ header layout reading at n old archive laid sound behind loose keeps. archive_beside header layout reading at n old archive laid sound behind loose keeps
