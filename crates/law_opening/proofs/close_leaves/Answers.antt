use Rattle.law_opening.proofs.Reopened.{close-leaves}
use Rattle.law_opening.proofs.close_leaves.Goals as goal

pub returns : goal.returns
returns c = close-leaves
