use Rattle.law_refinement.proofs.Forgetting.{forgets}
use Rattle.law_refinement.proofs.forgotten_holds.Goals as goal

pub returns : goal.returns
returns c = forgets
