use Rattle.law_image.proofs.HeapSteps.{anchors-plan}
use Rattle.law_image.proofs.heap_laws.anchors_are_plan.Goals as goal

pub returns : goal.returns
returns c = λ reading h floors stands same. anchors-plan reading h floors stands same
