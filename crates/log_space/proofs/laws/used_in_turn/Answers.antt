use Rattle.log_space.proofs.Uses.{used_in_turn}
use Rattle.log_space.proofs.laws.used_in_turn.Goals as goal

pub returns : goal.returns
returns c = used_in_turn
