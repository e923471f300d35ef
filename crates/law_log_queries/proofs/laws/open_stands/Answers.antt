use Rattle.law_log_queries.proofs.Opening.{opened-stands, stop-reopens}
use Rattle.law_log_queries.proofs.laws.open_stands.Goals as goal

pub returns-clause-stands : goal.returns-clause-stands
returns-clause-stands c = λ tells old mark v roots h floors told sound image opens. opened-stands tells old mark v roots h floors told sound image opens

pub returns-clause-again : goal.returns-clause-again
returns-clause-again c = stop-reopens
