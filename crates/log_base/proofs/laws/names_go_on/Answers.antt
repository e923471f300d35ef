use Rattle.log_base.proofs.NamesTold.{names-go_on}
use Rattle.log_base.proofs.laws.names_go_on.Goals as goal

pub returns : goal.returns
returns c = names-go_on
