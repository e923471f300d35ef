use Rattle.run.proofs.Linking.{promise}
use Rattle.run.proofs.opening.whatever_a_stop_leaves.Goals as goal

pub returns : goal.returns
returns c = promise
