use Rattle.law_image.proofs.HeapSteps.{base-behind, group-beside}
use Rattle.law_image.proofs.heap_laws.base_stays.Goals as goal

pub returns-clause-behind : goal.returns-clause-behind
returns-clause-behind c = λ mark log after heads le some up based. base-behind mark log after heads le some up based

pub returns-clause-beside : goal.returns-clause-beside
returns-clause-beside c = λ reading olds after group all. group-beside reading olds after group all
