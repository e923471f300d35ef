use Rattle.law_layout.proofs.Growing.{growth_leaves}
use Rattle.law_layout.proofs.laws.growth_leaves.Goals as goal

pub returns : goal.returns
returns c = λ header stage calm a content growing sound left. growth_leaves header stage calm a content growing sound left
