use Rattle.extents.proofs.Frames.{list_kept, others_stay}
use Rattle.extents.proofs.laws.list_kept.Goals as goal

pub returns-clause-kept : goal.returns-clause-kept
returns-clause-kept c = list_kept

pub returns-clause-others : goal.returns-clause-others
returns-clause-others c = others_stay
