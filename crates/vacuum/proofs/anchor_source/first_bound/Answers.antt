use Rattle.std.proofs.Common.{◌∙◌}
use Rattle.vacuum.proofs.Anchors.{olds-first}
use Rattle.vacuum.proofs.anchor_source.first_bound.Goals as goal

pub returns-clause-left : goal.returns-clause-left
returns-clause-left c = c.settled.ensures.left ∙ olds-first c.args.mark c.args.frozen.now
