use Rattle.vacuum.proofs.Plans.{reclaim_plan-is}
use Rattle.vacuum.proofs.laws.reclaim_is_walked.Goals as goal

pub returns : goal.returns
returns c = λ reading frozen mark versions_are holds mark_is. reclaim_plan-is reading frozen versions_are holds mark mark_is
