use Rattle.law_layout.proofs.Standing.{held_stands, rests_hold}
use Rattle.law_layout.proofs.laws.rest_stands.Goals as goal

pub returns : goal.returns
returns c = λ header layout reading h floors areas image laid stands rests left.
    held_stands header layout reading h floors image laid stands (rests_hold header layout areas image rests left)
