use Rattle.vacuum.proofs.Plans.{archive_plan-is}
use Rattle.vacuum.proofs.laws.archive_is_walked.Goals as goal

pub returns : goal.returns
returns c = λ reading frozen since upto versions_are holds mark_is floor_is. archive_plan-is reading frozen versions_are holds since upto mark_is floor_is
