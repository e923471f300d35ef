use Rattle.std.proofs.Common.{arith}
use Rattle.std.proofs.lemmas.Grind.{common_steps}
use Rattle.script.proofs.line.submit.Goals as goal

pub returns-in_err-number : goal.returns-in_err-number
returns-in_err-number c = grind (arith, common_steps)

pub returns-in_err-read_time : goal.returns-in_err-read_time
returns-in_err-read_time c = grind (arith, common_steps)

pub returns : goal.returns
returns c = grind (arith, common_steps)
