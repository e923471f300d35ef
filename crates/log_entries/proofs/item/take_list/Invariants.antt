use Rattle.std.proofs.Common.{length}
use Rattle.log_entries.proofs.Lists.{SoFar}
use Rattle.log_entries.proofs.item.take_list.Given as goal

abbrev pub invariant-loop-found : goal.invariant-loop-found
invariant-loop-found g l = SoFar g.T.Item.bytes_of g.T.Item.Is l.bytes l.found.items l.rest

abbrev pub decreases-loop-found : goal.decreases-loop-found
decreases-loop-found g l = length l.rest
