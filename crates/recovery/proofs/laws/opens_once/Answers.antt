use Rattle.recovery.proofs.OneAnswer.{same_read}
use Rattle.recovery.proofs.laws.opens_once.Goals as goal

pub returns : goal.returns
returns c = λ image r s reads_r reads_s. same_read image r s reads_r reads_s
