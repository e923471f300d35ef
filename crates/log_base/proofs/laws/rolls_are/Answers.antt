use Rattle.log_base.proofs.RunsLeft.{rolls-left}
use Rattle.log_base.proofs.laws.rolls_are.Goals as goal

pub returns : goal.returns
returns c = λ mark names chains rules. rolls-left mark names chains rules.each
