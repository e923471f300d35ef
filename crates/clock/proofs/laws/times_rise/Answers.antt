use Rattle.clock.proofs.Times.{times_rise_lem}
use Rattle.clock.proofs.laws.times_rise.Goals as goal

pub returns : goal.returns
returns c = times_rise_lem
