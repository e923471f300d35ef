use Rattle.std.proofs.Common.{arith}
use Rattle.std.proofs.lemmas.Grind.{common_steps}
use Rattle.vacuum.proofs.Records.{behind-head}
use Rattle.vacuum.proofs.archive_walk.place_behind.Goals as goal

pub returns-clause-left : goal.returns-clause-left
returns-clause-left c =
    λ since upto place is. behind-head since upto place c.args.frozen.now c.args.head.now c.is_empty-none.ensures.ordered c.is_empty-none.ensures.rising is

pub returns-clause-is : goal.returns-clause-is
returns-clause-is c = grind (arith, common_steps)
