use Rattle.log_base.proofs.RunsLeft.{anchors-stay}
use Rattle.log_base.proofs.laws.anchors_are.Goals as goal

pub returns : goal.returns
returns c = λ most names chains a rules placed named. anchors-stay most names chains a rules.each placed named
