use Rattle.law_log.proofs.Behind.{comes-behind}
use Rattle.law_log.proofs.laws.group_comes_behind.Goals as goal

pub returns : goal.returns
returns c = λ chains members rules le some few up. comes-behind chains members rules le some few up
