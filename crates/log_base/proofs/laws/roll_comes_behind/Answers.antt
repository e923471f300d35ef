use Rattle.log_base.proofs.InRow.{comes-behind}
use Rattle.log_base.proofs.laws.roll_comes_behind.Goals as goal

pub returns : goal.returns
returns c = comes-behind
