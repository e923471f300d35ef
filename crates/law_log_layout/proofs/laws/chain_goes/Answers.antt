use Rattle.law_log_layout.proofs.Goes.{goes}
use Rattle.law_log_layout.proofs.laws.chain_goes.Goals as goal

pub returns : goal.returns
returns c = λ live t stage areas free sound at. goes live t free areas sound stage at
