use Rattle.log_space.proofs.Uses.{others_are_free}
use Rattle.log_space.proofs.laws.others_are_free.Goals as goal

pub returns : goal.returns
returns c = others_are_free
