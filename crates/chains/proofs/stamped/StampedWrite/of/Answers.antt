use Rattle.std.proofs.Common.{arith}
use Rattle.std.proofs.lemmas.Grind.{common_steps}
use Rattle.chains.proofs.stamped.StampedWrite.of.Goals as goal

pub returns-in_ok-stand_in-in-None : goal.returns-in_ok-stand_in-in-None
returns-in_ok-stand_in-in-None c = grind (arith, common_steps)
