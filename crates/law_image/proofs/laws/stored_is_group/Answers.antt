use Rattle.law_image.proofs.Recent.{stored-is_group}
use Rattle.law_image.proofs.laws.stored_is_group.Goals as goal

pub returns : goal.returns
returns c = λ reading h next floors stands may some few. stored-is_group reading h floors stands next may some few
