use Rattle.archive.proofs.Cut.{pieces_none, pieces_next, pieces_joined, pieces_full}
use Rattle.archive.proofs.laws.pieces_are_joined.Goals as goal

pub returns : goal.returns
returns c = record { none = pieces_none; next = pieces_next; joined = pieces_joined; full = pieces_full }
