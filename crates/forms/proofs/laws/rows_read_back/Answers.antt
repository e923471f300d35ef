use Rattle.forms.proofs.ReadBackLemmas.{rows_read_back_lem}
use Rattle.forms.proofs.laws.rows_read_back.Goals as goal

pub returns : goal.returns
returns c = rows_read_back_lem
