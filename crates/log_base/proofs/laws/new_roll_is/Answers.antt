use Rattle.log_base.proofs.RollNames.{roll-stored, roll-whole}
use Rattle.log_base.proofs.laws.new_roll_is.Goals as goal

pub returns : goal.returns
returns c = λ most upto start names new chains heads bytes rules placed in_memory added bytes_are. record {
  stored = roll-stored most upto start names new chains heads bytes rules placed in_memory added bytes_are;
  roll = roll-whole start new bytes bytes_are;
}
