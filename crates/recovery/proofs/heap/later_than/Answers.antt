use Rattle.std.proofs.Common.{◌∙◌}
use Rattle.recovery.proofs.Heads.{later_here}
use Rattle.recovery.proofs.heap.later_than.Goals as goal

pub returns-then-mark-entry : goal.returns-then-mark-entry
returns-then-mark-entry c =
    later_here c.args.mark c.loop-rest.invariant.1 c.loop-rest.rest.now _ c.in-len1-up.len_at_least c.if-mark-entry.true c.loop-rest.invariant.2
    ∙ c.loop-rest.invariant.0
