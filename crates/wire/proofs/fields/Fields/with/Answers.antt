use Rattle.std.proofs.Common.{arith}
use Rattle.std.proofs.lemmas.Grind.{common_steps}
use Rattle.wire.proofs.fields.Fields.with.Goals as goal

pub push-requires-clause-few : goal.push-requires-clause-few
push-requires-clause-few c = grind (arith, common_steps)
