use Rattle.law_log_layout.proofs.OneReading.{names-same}
use Rattle.law_log_layout.proofs.behind.names_are_one.Goals as goal

pub returns : goal.returns
returns c = names-same
