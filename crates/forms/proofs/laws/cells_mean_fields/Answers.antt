use Rattle.forms.proofs.CellLemmas.{cells_mean_fields_lem}
use Rattle.forms.proofs.laws.cells_mean_fields.Goals as goal

pub returns : goal.returns
returns c = cells_mean_fields_lem
