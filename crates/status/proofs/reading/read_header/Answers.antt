use Rattle.std.proofs.Common.{arith}
use Rattle.std.proofs.lemmas.Grind.{common_steps}
use Rattle.status.proofs.reading.read_header.Goals as goal

pub returns-in-Ok-None-clause-same : goal.returns-in-Ok-None-clause-same
returns-in-Ok-None-clause-same g c = grind (arith, common_steps)
