use Rattle.law_any_store.proofs.Names.{times-told, times-stand}
use Rattle.law_any_store.proofs.starts.times_are_of_label.Goals as goal

pub returns-clause-says : goal.returns-clause-says
returns-clause-says c = times-told

pub returns-clause-stands : goal.returns-clause-stands
returns-clause-stands c = times-stand
