use Rattle.law_library.proofs.Events.{promise}
use Rattle.law_library.proofs.whatever_a_host_leaves.Goals as goal

pub returns : goal.returns
returns c = promise
