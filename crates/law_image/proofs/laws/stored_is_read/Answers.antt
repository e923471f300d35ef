use Rattle.law_image.proofs.Deltas.{written-stored}
use Rattle.law_image.proofs.laws.stored_is_read.Goals as goal

pub returns : goal.returns
returns c = λ before new. written-stored before new
