use Rattle.law_any_store.proofs.Views.{at-stands, scan_at-stands, between-stands, scan_between-stands}
use Rattle.law_any_store.proofs.laws.queries_stand.Goals as goal

pub returns-clause-at : goal.returns-clause-at
returns-clause-at c = at-stands

pub returns-clause-scan_at : goal.returns-clause-scan_at
returns-clause-scan_at c = scan_at-stands

pub returns-clause-between : goal.returns-clause-between
returns-clause-between c = between-stands

pub returns-clause-scan_between : goal.returns-clause-scan_between
returns-clause-scan_between c = scan_between-stands
