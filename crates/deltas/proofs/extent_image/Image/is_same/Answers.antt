use Rattle.std.proofs.Common.{arith}
use Rattle.std.proofs.lemmas.Grind.{common_steps}
use Rattle.deltas.proofs.extent_image.Image.is_same.Goals as goal

pub returns : goal.returns
returns c = grind (arith, common_steps)
