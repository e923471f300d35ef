use Rattle.law_layout.proofs.Ways.{slot_stands}
use Rattle.law_layout.proofs.laws.slot_stands.Goals as goal

pub returns : goal.returns
returns c =
    λ header layout reading h next floors group old new laid stands held joins has. slot_stands header layout reading h next floors group laid stands joins old
    new held has
