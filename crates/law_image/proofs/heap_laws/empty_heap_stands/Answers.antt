use Rattle.law_image.proofs.Empty.{empty-heap_stands}
use Rattle.law_image.proofs.heap_laws.empty_heap_stands.Goals as goal

pub returns : goal.returns
returns c = λ extents header. empty-heap_stands extents header
