use Rattle.law_refinement.proofs.Views.{at-recently, scan_at-recently, between-recently, scan_between-recently}
use Rattle.law_refinement.proofs.Queries.{recent-answered}
use Rattle.law_refinement.proofs.recent_is_answered.Goals as goal

pub returns-clause-alone : goal.returns-clause-alone
returns-clause-alone c = recent-answered

pub returns-clause-at : goal.returns-clause-at
returns-clause-at c = at-recently

pub returns-clause-scan_at : goal.returns-clause-scan_at
returns-clause-scan_at c = scan_at-recently

pub returns-clause-between : goal.returns-clause-between
returns-clause-between c = between-recently

pub returns-clause-scan_between : goal.returns-clause-scan_between
returns-clause-scan_between c = scan_between-recently
