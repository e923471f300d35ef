use Rattle.log_store.specs.Queries.{in_log_store}
use Rattle.law_refinement.proofs.Asked.{at-asked_recently, scan_at-asked_recently, between-asked_recently, scan_between-asked_recently}
use Rattle.law_log_queries.proofs.laws.recent_is_answered.Goals as goal

pub returns-clause-at : goal.returns-clause-at
returns-clause-at c = λ tells v new view h floors key time answer of says.
    at-asked_recently in_log_store tells v.commits.mark v new view h floors of key time answer says

pub returns-clause-scan_at : goal.returns-clause-scan_at
returns-clause-scan_at c = λ tells v new view h floors relation time answer of says.
    scan_at-asked_recently in_log_store tells v.commits.mark v new view h floors of relation time answer says

pub returns-clause-between : goal.returns-clause-between
returns-clause-between c = λ tells v new view h floors key a b answer of says.
    between-asked_recently in_log_store tells v.commits.mark v new view h floors of key a b answer says

pub returns-clause-scan_between : goal.returns-clause-scan_between
returns-clause-scan_between c = λ tells v new view h floors relation a b answer of says.
    scan_between-asked_recently in_log_store tells v.commits.mark v new view h floors of relation a b answer says
