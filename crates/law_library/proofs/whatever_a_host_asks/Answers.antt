use Rattle.law_library.proofs.Labels as labels
use Rattle.law_library.proofs.Traces as traces
use Rattle.law_library.proofs.Viewing as viewing
use Rattle.law_library.proofs.whatever_a_host_asks.Goals as goal

pub returns-clause-moments : goal.returns-clause-moments
returns-clause-moments c = traces.moments

pub returns-clause-views : goal.returns-clause-views
returns-clause-views c = viewing.views

pub returns-clause-times : goal.returns-clause-times
returns-clause-times c = labels.times
