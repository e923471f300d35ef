use Rattle.law_live_ranges.proofs.Stays.{calls_leave, stop_leaves}
use Rattle.law_live_ranges.proofs.named_stays.Goals as goal

pub returns-clause-stays : goal.returns-clause-stays
returns-clause-stays c = calls_leave

pub returns-clause-stops : goal.returns-clause-stops
returns-clause-stops c = stop_leaves
