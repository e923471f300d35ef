use Rattle.law_log_opened.proofs.Reopened.{open-refuses}
use Rattle.law_log_opened.proofs.laws.open_stands.Goals as goal

pub returns : goal.returns
returns c = λ tells old new why roots h floors refuses told image. open-refuses tells old new why roots h floors refuses told image
