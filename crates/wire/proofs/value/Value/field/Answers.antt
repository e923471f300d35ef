use Rattle.std.proofs.Common.{arith}
use Rattle.std.proofs.lemmas.Grind.{common_steps}
use Rattle.wire.proofs.value.Value.field.Goals as goal

pub loop-init : goal.loop-init
loop-init c = grind (arith, common_steps)
