use Rattle.law_log.proofs.Telling.{told-keeps}
use Rattle.law_log.proofs.laws.told_keeps_rules.Goals as goal

pub returns : goal.returns
returns c = λ chains rules le. told-keeps chains rules le
