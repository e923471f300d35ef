use Rattle.log_base.proofs.InRow.{runs-in_row}
use Rattle.log_base.proofs.laws.runs_stay_in_row.Goals as goal

pub returns : goal.returns
returns c = runs-in_row
