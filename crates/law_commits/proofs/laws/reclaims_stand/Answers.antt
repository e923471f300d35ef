use Rattle.law_commits.proofs.Reclaims.{reclaims}
use Rattle.law_commits.proofs.laws.reclaims_stand.Goals as goal

pub returns : goal.returns
returns c = reclaims c.forgotten_holds.ensures
