use Rattle.log_extents.proofs.Pieces.{pieces_joined, pieces_counted}
use Rattle.log_extents.proofs.laws.pieces_joined.Goals as goal

pub returns-clause-joined : goal.returns-clause-joined
returns-clause-joined c = pieces_joined

pub returns-clause-counted : goal.returns-clause-counted
returns-clause-counted c = pieces_counted
