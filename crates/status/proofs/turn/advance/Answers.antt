use Rattle.std.proofs.Common.{arith}
use Rattle.std.proofs.lemmas.Grind.{common_steps}
use Rattle.status.proofs.turn.advance.Goals as goal

pub returns-in-GateWritten-clause-call : goal.returns-in-GateWritten-clause-call
returns-in-GateWritten-clause-call g c = grind (arith, common_steps)

pub returns-in-GateWritten-clause-counts : goal.returns-in-GateWritten-clause-counts
returns-in-GateWritten-clause-counts g c = grind (arith, common_steps)
