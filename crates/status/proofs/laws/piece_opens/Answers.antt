use Rattle.status.proofs.Pieces.{then_grown}
use Rattle.status.proofs.laws.piece_opens.Goals as goal

pub returns : goal.returns
returns c = λ header slots calm content may log beside zeros is_open. then_grown header slots calm content may log beside zeros is_open
