use Rattle.status.proofs.Changes.{gate_changes}
use Rattle.status.proofs.laws.gate_changes.Goals as goal

pub returns : goal.returns
returns c = λ header slots slot old new within log spelled agrees. gate_changes header slots within old new log slot spelled agrees
