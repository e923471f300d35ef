use Rattle.forms.proofs.TextLemmas.{texts_mean_fields_lem}
use Rattle.forms.proofs.laws.texts_mean_fields.Goals as goal

pub returns : goal.returns
returns c = texts_mean_fields_lem
