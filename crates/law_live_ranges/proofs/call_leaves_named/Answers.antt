use Rattle.law_live_ranges.proofs.Stays.{call_leaves}
use Rattle.law_live_ranges.proofs.call_leaves_named.Goals as goal

pub returns : goal.returns
returns c = call_leaves
