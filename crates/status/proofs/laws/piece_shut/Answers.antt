use Rattle.status.proofs.Pieces.{still_shut}
use Rattle.status.proofs.laws.piece_shut.Goals as goal

pub returns : goal.returns
returns c = λ header slots calm content may log beside shut. still_shut header slots calm content may log beside shut
