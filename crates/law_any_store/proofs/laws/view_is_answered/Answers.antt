use Rattle.law_any_store.proofs.Views.{view-of-history, view-goes-on, at-answered, scan_at-answered, between-answered, scan_between-answered}
use Rattle.law_any_store.proofs.laws.view_is_answered.Goals as goal

pub returns-clause-view : goal.returns-clause-view
returns-clause-view c = view-of-history

pub returns-clause-goes_on : goal.returns-clause-goes_on
returns-clause-goes_on c = view-goes-on

pub returns-clause-at : goal.returns-clause-at
returns-clause-at c = at-answered

pub returns-clause-scan_at : goal.returns-clause-scan_at
returns-clause-scan_at c = scan_at-answered

pub returns-clause-between : goal.returns-clause-between
returns-clause-between c = between-answered

pub returns-clause-scan_between : goal.returns-clause-scan_between
returns-clause-scan_between c = scan_between-answered
