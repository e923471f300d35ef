use Rattle.law_log_queries.proofs.Views.{view-of-history, view-goes-on, at-answered, scan_at-answered, between-answered, scan_between-answered}
use Rattle.law_log_queries.proofs.laws.view_is_answered.Goals as goal

pub returns-clause-view : goal.returns-clause-view
returns-clause-view c = view-of-history

pub returns-clause-goes_on : goal.returns-clause-goes_on
returns-clause-goes_on c = view-goes-on

pub returns-clause-at : goal.returns-clause-at
returns-clause-at c = λ tells v new m view h floors key time answer stands of reads says.
    at-answered tells v new m view h floors stands of reads key time answer says

pub returns-clause-scan_at : goal.returns-clause-scan_at
returns-clause-scan_at c = λ tells v new m view h floors relation time answer stands of reads says.
    scan_at-answered tells v new m view h floors stands of reads relation time answer says

pub returns-clause-between : goal.returns-clause-between
returns-clause-between c = λ tells v new m view h floors key a b answer stands of reads says.
    between-answered tells v new m view h floors stands of reads key a b answer says

pub returns-clause-scan_between : goal.returns-clause-scan_between
returns-clause-scan_between c = λ tells v new m view h floors relation a b answer stands of reads says.
    scan_between-answered tells v new m view h floors stands of reads relation a b answer says
