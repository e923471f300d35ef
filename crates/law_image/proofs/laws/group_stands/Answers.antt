use Rattle.law_image.proofs.GroupStep.{group-stands_for}
use Rattle.law_image.proofs.laws.group_stands.Goals as goal

pub returns : goal.returns
returns c = λ reading h next floors group stands joins room. group-stands_for reading h floors stands group next joins room
