use Rattle.law_any_store.proofs.StartSays.{start-says, reclaim-says, grow-says}
use Rattle.law_any_store.proofs.starts.starts_say.Goals as goal

pub returns-clause-archive : goal.returns-clause-archive
returns-clause-archive c = start-says

pub returns-clause-reclaim : goal.returns-clause-reclaim
returns-clause-reclaim c = reclaim-says

pub returns-clause-grow : goal.returns-clause-grow
returns-clause-grow c = grow-says
