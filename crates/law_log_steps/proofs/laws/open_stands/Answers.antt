use Rattle.law_log_steps.proofs.Opening.{is-opened}
use Rattle.law_log_steps.proofs.laws.open_stands.Goals as goal

pub returns : goal.returns
returns c = λ tells old mark v roots h floors told sound image opens. is-opened tells old mark v roots h floors told sound image opens
