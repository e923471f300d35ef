use Rattle.law_image.proofs.HeapSteps.{merge-stands_for, base-stands_for}
use Rattle.law_image.proofs.FloorStep.{floor-in_heap}
use Rattle.law_image.proofs.heap_laws.heap_jobs_stand.Goals as goal

pub returns-clause-archive : goal.returns-clause-archive
returns-clause-archive c =
    λ reading h floors kept upto run stands heap plan later by_last. merge-stands_for reading h floors stands heap kept upto run plan later by_last

pub returns-clause-base : goal.returns-clause-base
returns-clause-base c = λ reading h floors olds after stands heap plan based. base-stands_for reading h floors olds after stands heap plan based

pub returns-clause-floor : goal.returns-clause-floor
returns-clause-floor c = λ reading h floors scope floor stands heap may. floor-in_heap reading h floors scope floor stands heap may
