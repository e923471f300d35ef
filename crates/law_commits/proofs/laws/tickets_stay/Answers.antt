use Rattle.law_commits.proofs.Tickets.{queued-awaited, reclaim-awaited}
use Rattle.law_commits.proofs.laws.tickets_stay.Goals as goal

pub returns-clause-queued : goal.returns-clause-queued
returns-clause-queued c = queued-awaited

pub returns-clause-reclaimed : goal.returns-clause-reclaimed
returns-clause-reclaimed c = reclaim-awaited
