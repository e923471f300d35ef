use Rattle.law_script.proofs.Script.{promise}
use Rattle.law_script.proofs.whatever_a_script_leaves.Goals as goal

pub returns : goal.returns
returns c = promise
