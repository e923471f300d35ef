use Rattle.run.proofs.Tracing.{as-many, to-its-end, calls-link, machine-runs, stops-survive}
use Rattle.run.proofs.laws.calls_link.Goals as goal

pub returns-clause-many : goal.returns-clause-many
returns-clause-many c = as-many

pub returns-clause-ends : goal.returns-clause-ends
returns-clause-ends c = to-its-end

pub returns-clause-links : goal.returns-clause-links
returns-clause-links c = calls-link

pub returns-clause-runs : goal.returns-clause-runs
returns-clause-runs c = machine-runs

pub returns-clause-stops : goal.returns-clause-stops
returns-clause-stops c = stops-survive
