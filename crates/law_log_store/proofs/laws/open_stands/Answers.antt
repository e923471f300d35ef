use Rattle.law_log_store.proofs.Opening.{open-stands, opens-any}
use Rattle.law_log_store.proofs.laws.open_stands.Goals as goal

pub returns-clause-stands : goal.returns-clause-stands
returns-clause-stands c = λ tells old mark v roots h floors told sound image opens. open-stands tells old mark v roots h floors told sound image opens

pub returns-clause-any : goal.returns-clause-any
returns-clause-any c = λ tells old new why roots h floors told image refuses. opens-any tells old new why roots h floors told image refuses
